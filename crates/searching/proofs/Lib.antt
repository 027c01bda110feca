pub mod Steps
pub mod Last
pub mod Turns
pub mod Ten
pub mod Kept
pub mod Found
