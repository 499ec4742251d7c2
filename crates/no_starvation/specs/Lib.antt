pub mod Starve
