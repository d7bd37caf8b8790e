pub mod ByBytes
pub mod Lines
pub mod Checks
pub mod Verdicts
pub mod Texts
pub mod Worked
