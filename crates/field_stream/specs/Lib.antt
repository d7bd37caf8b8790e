pub mod Generator
pub mod Pushes
pub mod Lines
pub mod Made
pub mod Drafts
pub mod Worked
