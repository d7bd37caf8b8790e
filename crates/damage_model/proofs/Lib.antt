mod QueuesShrink
mod Leaving
mod WholeLines
pub mod Orders
pub mod ArrivedTakes
pub mod LastSignals
pub mod StoredTakes
pub mod LineBytes
pub mod PlacedTakes
pub mod Held
pub mod Pieces
pub mod EnteredRows
mod Worked
