pub mod Programs
pub mod Descriptions
pub mod Listings
pub mod Rings
pub mod Limits
pub mod Chains
pub mod Checked
