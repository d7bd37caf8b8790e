pub mod Before
pub mod Tracks
pub mod Maps
