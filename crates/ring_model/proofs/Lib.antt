pub mod Lines
pub mod Blocks
pub mod Sound
pub mod Writes
pub mod Few
pub mod RingProgram
pub mod Counting
