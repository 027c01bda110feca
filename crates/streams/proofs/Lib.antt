pub mod Steps
pub mod Long
pub mod Parts
pub mod Final
