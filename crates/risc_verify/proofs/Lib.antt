pub mod Chunks
pub mod Cuts
pub mod Judged
pub mod Near
pub mod Numbers
pub mod Pigeonhole
pub mod Rounds
pub mod Walking
