pub mod Described
pub mod Places
pub mod Plans
pub mod Programs
pub mod Geometry
pub mod Worked
pub mod Words
