pub mod Entries
pub mod State
pub mod Words
pub mod Rules
pub mod Column
pub mod Rows
