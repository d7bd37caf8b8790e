pub mod Ending
pub mod Products
pub mod Playing
mod Saying
mod Tracing
mod Statuses
