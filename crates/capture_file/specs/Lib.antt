pub mod Streams
pub mod Records
pub mod Readers
pub mod Pairs
pub mod Programs
pub mod Images
pub mod Pushes
