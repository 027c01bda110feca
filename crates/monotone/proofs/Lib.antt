pub mod Cases
pub mod Plain
pub mod Read
pub mod Items
pub mod Order
pub mod Texts
pub mod Promise
