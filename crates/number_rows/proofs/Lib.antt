pub mod NumberRows
pub mod Parts
