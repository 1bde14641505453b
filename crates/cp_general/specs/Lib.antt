pub mod Fit
pub mod Steps
pub mod Generalisation
pub mod ListedPairs
pub mod CoveringPairs
pub mod Needed
pub mod ProgramSteps
pub mod Example
