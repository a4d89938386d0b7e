pub mod Load
pub mod Rest
pub mod Set
pub mod Editions
