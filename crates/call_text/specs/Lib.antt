pub mod Buffer
pub mod Edition
pub mod Keyword
pub mod Line
