pub mod CounterLaws
pub mod Promises
pub mod Determined
