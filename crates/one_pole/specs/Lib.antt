pub mod Tangent
pub mod OnePole
pub mod Fields
