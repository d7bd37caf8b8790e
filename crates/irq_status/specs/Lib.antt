pub mod Register
pub mod Writes
