pub mod Respond
pub mod Answers
