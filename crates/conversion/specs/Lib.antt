pub mod Conversion
pub mod Rows
pub mod Converted
