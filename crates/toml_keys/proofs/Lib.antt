mod Listing
pub mod Least
mod Documents
pub mod Chains
pub mod Fitting
pub mod Shown
