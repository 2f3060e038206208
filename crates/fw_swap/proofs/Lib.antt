pub mod SealingLaws
