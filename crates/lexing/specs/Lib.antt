pub mod Marks
pub mod Bare
pub mod Brackets
pub mod Buffer
