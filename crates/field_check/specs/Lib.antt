pub mod Cursors
pub mod Tracks
pub mod Walks
pub mod Plans
