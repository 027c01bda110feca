pub mod Runs
pub mod DateSteps
pub mod DateRows
