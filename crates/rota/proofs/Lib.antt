pub mod Ring
pub mod Follows
pub mod Rows
pub mod Sound
pub mod Turns
pub mod Fairness
