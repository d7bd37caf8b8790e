pub mod Playing
mod Forms
pub mod Sound
mod Loading
pub mod Fitting
pub mod FewTurns
pub mod Rings
pub mod Chains
pub mod Watches
mod PlainPairs
mod PushedPairs
pub mod LostPushes
