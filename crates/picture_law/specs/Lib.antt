pub mod Pictures
pub mod Sections
pub mod Laws
pub mod Worked
pub mod Runs
pub mod WorkedPlanar
pub mod WorkedBottom
