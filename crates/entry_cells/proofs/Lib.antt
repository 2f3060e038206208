pub mod EntryLaws
pub mod Settling
pub mod StepLaws
pub mod ComingLaws
pub mod PassLaws
pub mod CountingLaws
pub mod TestLaws
