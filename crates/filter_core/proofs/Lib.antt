pub mod Passes
pub mod Kept
pub mod Horner
pub mod Odd
pub mod Refusals
pub mod Rows
