pub mod Checks
pub mod Editions
pub mod KindBytes
pub mod Setters
pub mod KindRows
pub mod EntryRows
pub mod Rows
pub mod Returns
