pub mod Clipping
pub mod Runs
pub mod Parts
