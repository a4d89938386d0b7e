pub mod Sine
pub mod NaiveSvf
pub mod Fields
