pub mod Sections
pub mod Runs
pub mod Tabled
