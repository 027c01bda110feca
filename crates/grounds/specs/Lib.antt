pub mod Numbers
pub mod Why
pub mod Because
