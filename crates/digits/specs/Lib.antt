pub mod Decimal
pub mod Hex
pub mod Text
