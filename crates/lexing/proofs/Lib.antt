pub mod Scanning
pub mod Reading
pub mod Placing
pub mod Bracketing
pub mod Starting
pub mod Filling
pub mod Semicolons
