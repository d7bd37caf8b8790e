pub mod Desks
pub mod Sinks
pub mod Memory
pub mod Bounds
pub mod Inside
pub mod Hosts
pub mod System
