pub mod Answers
pub mod Pages
pub mod Steps
pub mod Findings
