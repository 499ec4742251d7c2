pub mod WordBitLaws
pub mod FirstBitsLaws
pub mod RisingLaws
pub mod FallingLaws
pub mod ClimbsLaws
pub mod ClimbsRestLaws
pub mod FallsLaws
