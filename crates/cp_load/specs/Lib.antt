pub mod Directions
pub mod Inputs
pub mod UncheckedProblems
pub mod Stages
pub mod Originations
pub mod Acyclic
pub mod Behind
