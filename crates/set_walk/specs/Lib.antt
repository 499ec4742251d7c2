pub mod WordPositions
