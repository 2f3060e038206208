pub mod Locks
pub mod Stored
