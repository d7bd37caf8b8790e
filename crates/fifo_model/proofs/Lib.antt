pub mod Waking
pub mod Codes
pub mod QueueStates
pub mod ChangesKeepQueues
pub mod Rings
