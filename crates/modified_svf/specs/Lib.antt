pub mod ModifiedSvf
pub mod Fields
