pub mod DrawnShort
pub mod DrawnSpelled
pub mod DrawnValid
pub mod GeneratedCommands
pub mod GeneratedLaws
pub mod GeneratedSound
pub mod ShortItems
pub mod ShortLines
