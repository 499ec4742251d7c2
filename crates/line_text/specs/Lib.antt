pub mod Hex
pub mod Decimal
pub mod Held
pub mod Lines
