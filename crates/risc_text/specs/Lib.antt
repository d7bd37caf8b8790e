pub mod Readers
pub mod Drafts
pub mod Assembly
