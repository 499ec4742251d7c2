pub mod BlockStands
pub mod OtherLaws
pub mod OwnLaws
pub mod StarveLaws
pub mod StarveCalls
pub mod StarveExample
pub mod StarveNeeds
