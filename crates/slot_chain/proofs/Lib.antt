pub mod Wheels
pub mod StillTurns
pub mod Turning
pub mod Counted
pub mod Counting
pub mod Loops
pub mod Placing
pub mod Parts
pub mod MadeChain
pub mod Stepping
mod Granting
mod Reasons
mod Together
mod Standing
pub mod Pairs
mod Behind
pub mod Plays
pub mod Promising
pub mod LostPushes
