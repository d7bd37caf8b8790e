pub mod Chains
pub mod Live
pub mod Words
