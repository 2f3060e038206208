pub mod FieldLaws
pub mod SlotLaws
