pub mod Scanning
pub mod Numbering
