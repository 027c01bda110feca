pub mod Segments
pub mod Loose
pub mod Denominators
pub mod Spaces
pub mod Fractions
pub mod Parts
