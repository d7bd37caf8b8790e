pub mod Grants
pub mod Blocks
pub mod Taken
pub mod Scattered
