pub mod Least
pub mod Counting
pub mod Reach
