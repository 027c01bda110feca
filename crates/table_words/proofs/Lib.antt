pub mod Heads
pub mod Bodies
pub mod Pairs
pub mod Cuts
pub mod KindWords
pub mod PlaceRuns
