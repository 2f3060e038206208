pub mod Entry
pub mod Walk
pub mod Answer
pub mod NestedReads
