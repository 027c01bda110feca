pub mod Integers
pub mod Settled
pub mod Solidus
pub mod Drafting
pub mod Digits
pub mod Sectioning
