pub mod Letters
pub mod Moment
