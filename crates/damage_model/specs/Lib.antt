pub mod Takings
pub mod Lines
pub mod Marks
pub mod Worked
pub mod Orders
pub mod Arrived
pub mod LastSignals
pub mod Standing
