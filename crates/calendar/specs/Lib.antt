pub mod Year
pub mod Date
pub mod Clock
pub mod Names
pub mod Found
pub mod Moved
pub mod Made
pub mod Tables
