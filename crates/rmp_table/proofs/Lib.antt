pub mod LockLaws
pub mod EntryLaws
