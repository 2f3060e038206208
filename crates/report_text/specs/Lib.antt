pub mod EventLines
pub mod EventNumbers
