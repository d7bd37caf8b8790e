pub mod WellFormed
pub mod Keys
pub mod Values
pub mod Description
pub mod Faults
