pub mod Joined
pub mod Forms
pub mod Walks
pub mod Buffer
pub mod Turns
pub mod Going
