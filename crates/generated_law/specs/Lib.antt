pub mod Drawn
pub mod Streams
pub mod ReadBack
