pub mod Choices
pub mod Noughts
pub mod Cuts
pub mod Answers
pub mod Holding
