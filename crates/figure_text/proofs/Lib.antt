pub mod Digits
pub mod Extra
pub mod General
