pub mod Words
pub mod Slots
pub mod Stores
pub mod Others
pub mod Live
