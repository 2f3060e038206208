pub mod CommitLaws
pub mod LockLaws
pub mod RowLaws
