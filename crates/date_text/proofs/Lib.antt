pub mod Letters
pub mod Items
pub mod Moments
pub mod Spans
