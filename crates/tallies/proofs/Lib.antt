pub mod Places
pub mod Pairs
pub mod Packed
pub mod Fold
pub mod Steps
pub mod Held
pub mod Told
pub mod Exponents
