pub mod Inputs
pub mod Judges
pub mod Missing
pub mod Outputs
pub mod Words
pub mod Consequences
pub mod Pictures
pub mod Rings
