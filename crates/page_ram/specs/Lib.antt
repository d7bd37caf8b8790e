pub mod Extents
pub mod Places
pub mod Row
