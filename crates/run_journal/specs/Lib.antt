pub mod Outcomes
pub mod Shorts
