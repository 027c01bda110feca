pub mod FractionLoops
pub mod FractionParts
pub mod FractionRows
