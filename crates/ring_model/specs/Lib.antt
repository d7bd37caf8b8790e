pub mod Rings
pub mod Runs
pub mod Worked
