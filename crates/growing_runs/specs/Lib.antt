pub mod Drives
pub mod Duels
pub mod Extending
pub mod GoingOn
pub mod Plain
