pub mod Form
pub mod Run
pub mod Rows
pub mod Kept
