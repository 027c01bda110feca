pub mod Widths
pub mod Calls
pub mod Putting
