pub mod Adapters
pub mod Counts
pub mod Holding
pub mod Memory
