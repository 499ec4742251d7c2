pub mod Outcome
pub mod Refusal
pub mod Lent
pub mod Row
pub mod Answers
