pub mod Svf
pub mod Fields
