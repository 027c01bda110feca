pub mod Machine
pub mod Search
