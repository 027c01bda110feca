pub mod Words
pub mod Encode
pub mod Standing
pub mod Decode
pub mod Rules
pub mod Calls
pub mod Promise
