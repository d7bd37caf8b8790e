pub mod Judged
pub mod UpToLimit
