pub mod InLine
pub mod Relations
pub mod InFront
pub mod InKinds
pub mod Counted
pub mod AllItems
pub mod InTree
pub mod LabelsFit
pub mod LabelParts
pub mod Sectioned
pub mod FaultPlaces
pub mod InSections
pub mod Reported
mod FittingItems
mod FittingNumbers
mod FittingOperations
mod FittingTests
mod PlainTerms
mod FittingMaps
mod FittingVariables
mod FittingImages
mod AcceptedForms
pub mod AcceptedTrees
mod ExampleReports
mod ShiftedSkeletons
mod ShiftedLabels
mod RestatedTrees
