pub mod Rows
pub mod Moved
pub mod Converted
