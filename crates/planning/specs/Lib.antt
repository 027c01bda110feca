pub mod Minus
pub mod Number
pub mod Plan
