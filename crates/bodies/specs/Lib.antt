pub mod Forms
pub mod Sections
pub mod Bodies
pub mod Fraction
pub mod Uses
pub mod Conditions
