pub mod Dated
pub mod FinestUnit
