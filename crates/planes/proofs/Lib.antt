pub mod Grid
pub mod Turns
pub mod Rows
pub mod Calls
pub mod Loops
