pub mod HexLaws
pub mod DecimalLaws
pub mod HeldLaws
pub mod LinesLaws
pub mod Determined
