pub mod Tracings
pub mod Lines
mod KeptWords
mod PieceBytes
