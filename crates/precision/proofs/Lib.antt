pub mod Near
pub mod Rounding
pub mod Counted
pub mod Words
pub mod Polynomials
pub mod Bounds
