pub mod FractionRows
