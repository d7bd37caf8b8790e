pub mod FirstWord
pub mod MoreWords
pub mod ReadInstructions
pub mod ReadBack
pub mod Fronts
