pub mod Contents
pub mod Rings
pub mod Products
pub mod Statuses
pub mod Damage
