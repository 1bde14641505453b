pub mod Choices
pub mod FirstChoices
pub mod PartialMaps
pub mod Maps
pub mod OpenMaps
pub mod Counterparts
pub mod Pairings
pub mod Grown
