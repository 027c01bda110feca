pub mod Fractions
pub mod Nearest
pub mod Moves
