pub mod Number
pub mod Word
pub mod Kind
pub mod Lawful
pub mod Keeps
pub mod NumberWire
