pub mod Runs
pub mod DateRows
