pub mod WalkLaws
pub mod SetWireLaws
pub mod MakeLaws
pub mod MemberLaws
pub mod RoundTrip
pub mod Determined
