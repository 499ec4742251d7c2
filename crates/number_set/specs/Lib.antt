pub mod NumberSet
pub mod SetWire
pub mod Make
pub mod Walk
