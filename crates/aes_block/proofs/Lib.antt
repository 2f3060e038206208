pub mod Words
pub mod Entries
pub mod RoundLaws
pub mod ScheduleLaws
pub mod FieldLaws
