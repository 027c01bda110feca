pub mod Table
pub mod Years
pub mod Months
pub mod Driving
pub mod Guess
pub mod Dates
pub mod Made
pub mod Clocks
