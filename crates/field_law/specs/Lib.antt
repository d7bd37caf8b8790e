pub mod Fields
pub mod Sections
pub mod Trails
pub mod Arrivals
pub mod Laws
pub mod TrailLaws
pub mod Worked
pub mod CutLines
