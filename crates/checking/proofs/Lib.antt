pub mod Rows
pub mod Places
pub mod Passing
pub mod Heads
pub mod Loops
pub mod Stands
