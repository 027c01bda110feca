pub mod Asking
pub mod Choosing
pub mod Comparing
pub mod Conditions
pub mod Finding
pub mod Standing
