pub mod Drafts
pub mod Fields
pub mod Limits
pub mod Programs
pub mod Verdicts
pub mod Answers
pub mod Texts
pub mod Words
