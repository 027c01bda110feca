pub mod Items
pub mod Lengths
pub mod Walking
pub mod Fitting
pub mod Cuts
pub mod Bodies
