pub mod Strings
pub mod Spelled
pub mod Proper
pub mod Example
pub mod PairedTree
pub mod TrueTrees
