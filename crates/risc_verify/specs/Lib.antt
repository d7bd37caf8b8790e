pub mod Rounds
pub mod Programs
pub mod Places
pub mod Marks
pub mod Verdicts
