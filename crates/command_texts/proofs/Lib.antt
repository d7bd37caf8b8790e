mod Bytes
pub mod MarkByMark
mod Heights
