pub mod Save
pub mod Rows
pub mod Parts
