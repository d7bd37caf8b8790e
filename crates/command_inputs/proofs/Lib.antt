pub mod UpToLimit
mod Described
mod Ringed
mod Judged
mod Lengths
pub mod WholeFiles
pub mod Pairing
pub mod Showing
