pub mod Tasks
pub mod Clauses
pub mod Pictures
pub mod Rows
pub mod Rings
pub mod Chains
