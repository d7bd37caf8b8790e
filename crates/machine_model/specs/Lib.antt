pub mod Paths
pub mod States
pub mod Turns
pub mod Steps
pub mod Accesses
pub mod Safety
pub mod Seen
pub mod PlainEntries
