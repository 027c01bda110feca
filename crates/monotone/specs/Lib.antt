pub mod Codes
pub mod Seen
