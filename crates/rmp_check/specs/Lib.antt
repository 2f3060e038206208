pub mod Allowed
