pub mod RingRuns
pub mod Laws
pub mod Runs
pub mod Worked
