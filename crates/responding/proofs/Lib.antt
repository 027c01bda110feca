pub mod Ascii
pub mod Answering
pub mod Cases
