pub mod DcBlocker
pub mod Fields
