pub mod FirstFault
mod RefusalExamplesOne
mod RefusalExamplesTwo
pub mod OneAnswer
pub mod BoundedSearch
mod ReportExamples
pub mod ChosenLabels
pub mod ValidTests
pub mod NoLocals
pub mod Terms
pub mod Names
pub mod Items
pub mod Values
pub mod EachRole
pub mod Roles
pub mod Instances
pub mod Strands
pub mod Bodies
pub mod Atoms
pub mod Uniques
pub mod NoCycle
pub mod Problems
pub mod Example
pub mod OwnNames
pub mod Entries
