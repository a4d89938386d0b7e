pub mod Edition
pub mod Kind
pub mod Refusal
pub mod Setters
pub mod Sheet
pub mod EditionOne
pub mod Rows
pub mod Editions
