pub mod Ring
pub mod Call
pub mod Rota
pub mod History
pub mod Follows
pub mod Rows
pub mod Fair
