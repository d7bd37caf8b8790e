pub mod Runs
pub mod Covered
pub mod Merging
pub mod Sorting
pub mod Few
pub mod RowsAlike
