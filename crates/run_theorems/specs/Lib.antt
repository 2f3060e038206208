pub mod CheckedReads
pub mod Counters
pub mod Launches
pub mod Ranges
pub mod Refusals
pub mod TouchedLocks
pub mod WholeArchives
