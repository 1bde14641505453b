pub mod ChosenTest
pub mod Expansion
pub mod ChosenNode
pub mod Widened
pub mod Views
