pub mod Subject
pub mod Walk
pub mod Show
