pub mod Checked
pub mod Mantissas
pub mod Fractions
pub mod Instants
pub mod Rooms
