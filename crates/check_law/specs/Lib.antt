pub mod Laws
pub mod Runs
pub mod Behind
pub mod Compiled
pub mod Worked
pub mod Verdicts
