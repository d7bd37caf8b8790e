pub mod SectionWords
pub mod Checking
