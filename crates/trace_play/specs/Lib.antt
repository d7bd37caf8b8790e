pub mod Texts
pub mod Playing
