pub mod Comparing
pub mod Seeking
