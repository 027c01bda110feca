pub mod Tags
pub mod Settling
