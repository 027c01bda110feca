pub mod Lining
pub mod Numerals
pub mod Valuing
pub mod Requesting
pub mod Cases
pub mod Prefixes
