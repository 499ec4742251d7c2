pub mod Frame
pub mod Answer
pub mod Feed
pub mod Inner
pub mod Replay
