pub mod Tally
pub mod Walk
