pub mod StepsLaws
pub mod CapLaws
pub mod EachLaws
pub mod BaseLaws
pub mod RangeLaws
