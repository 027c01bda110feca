pub mod Nearness
pub mod Scan
pub mod Unique
pub mod Between
pub mod Moving
pub mod Telling
pub mod Cases
