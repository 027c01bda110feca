pub mod Bytes
pub mod Lines
pub mod Written
pub mod Request
pub mod Reads
