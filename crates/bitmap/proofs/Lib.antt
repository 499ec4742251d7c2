pub mod WidthLaws
pub mod BitLaws
pub mod PositionLaws
pub mod PastLaws
pub mod MarkingLaws
