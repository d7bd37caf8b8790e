pub mod Extents
pub mod Filled
pub mod Places
pub mod Row
pub mod RowLent
pub mod Runs
