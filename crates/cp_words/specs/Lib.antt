pub mod CommandWords
pub mod Description
pub mod Parsed
