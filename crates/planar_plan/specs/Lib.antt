pub mod Sizes
pub mod Frames
pub mod Lines
pub mod Stretches
