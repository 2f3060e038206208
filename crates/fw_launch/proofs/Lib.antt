pub mod LaunchLaws
pub mod LockLaws
pub mod PassedLaws
