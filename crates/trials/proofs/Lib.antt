pub mod Lists
pub mod Counts
pub mod Choices
pub mod Agree
pub mod Places
pub mod Order
pub mod OnFrame
