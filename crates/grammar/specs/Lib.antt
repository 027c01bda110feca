pub mod Units
pub mod Bodies
pub mod Codes
