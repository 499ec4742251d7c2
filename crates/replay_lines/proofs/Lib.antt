pub mod FrameLaws
pub mod AnswerLaws
pub mod StepLaws
pub mod FeedLaws
pub mod Promises
pub mod KnownValues
pub mod Determined
