pub mod Entries
pub mod Views
pub mod Rule
pub mod Moves
pub mod Passes
pub mod Counting
