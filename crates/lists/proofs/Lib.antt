pub mod Over
pub mod Pieces
pub mod Puts
pub mod Tables
