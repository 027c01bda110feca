pub mod Cut
pub mod Beyond
pub mod Turns
