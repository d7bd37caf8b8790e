pub mod Decimal
pub mod Hexadecimal
pub mod OneSpelling
pub mod Passing
pub mod Spans
mod Settled
