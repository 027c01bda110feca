pub mod Evaluate
pub mod Cases
pub mod Going
pub mod Standing
pub mod Taking
pub mod Holding
