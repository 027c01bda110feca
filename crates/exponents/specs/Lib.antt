pub mod Exponent
pub mod Least
pub mod Leading
