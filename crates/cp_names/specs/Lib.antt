pub mod Variables
pub mod Flags
