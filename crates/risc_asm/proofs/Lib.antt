pub mod Continuing
pub mod Matching
pub mod Making
pub mod Words
pub mod Apart
pub mod Filling
pub mod Judging
pub mod Searching
pub mod OneAnswer
pub mod Lengths
pub mod NoFields
pub mod Agreeing
pub mod DigitTable
pub mod ShortName
mod Telling
mod Settling
mod Names
