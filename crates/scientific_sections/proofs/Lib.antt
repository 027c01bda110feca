pub mod Exponents
pub mod PowerItems
pub mod Scientific
