pub mod NumberLaws
pub mod SignedLaws
pub mod WordLaws
pub mod KindLaws
pub mod NumberWireLaws
pub mod Determined
