pub mod Testing
pub mod Refusing
pub mod Answering
