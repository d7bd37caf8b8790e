mod Hosts
pub mod Laws
pub mod Names
mod Slots
mod Told
pub mod Outputs
pub mod Pieces
pub mod Telling
