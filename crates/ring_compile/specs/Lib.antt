pub mod Files
pub mod Kept
pub mod Writes
pub mod Placed
