pub mod Fragments
pub mod Pictures
pub mod Runs
pub mod Worked
pub mod Behind
