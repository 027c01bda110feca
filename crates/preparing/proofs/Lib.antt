pub mod Counting
pub mod Tabling
pub mod Finishing
