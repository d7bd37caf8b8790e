pub mod Bounds
pub mod Faults
pub mod Reaching
pub mod Stretching
pub mod Cuts
pub mod Held
