pub mod Scanned
pub mod Cutting
