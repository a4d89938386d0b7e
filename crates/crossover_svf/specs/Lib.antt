pub mod CrossoverSvf
pub mod Fields
