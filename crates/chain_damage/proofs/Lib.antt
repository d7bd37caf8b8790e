pub mod Sectioned
pub mod Held
pub mod Positions
pub mod Signals
mod Worked
