pub mod Boards
pub mod Runs
