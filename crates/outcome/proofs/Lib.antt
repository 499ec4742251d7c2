pub mod Split
pub mod LentLaws
pub mod RowLaws
pub mod Determined
