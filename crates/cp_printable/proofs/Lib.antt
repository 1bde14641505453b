pub mod Numerals
pub mod Cuts
pub mod ReadTexts
pub mod StringTexts
pub mod ProperWords
pub mod ProperNames
pub mod ProperTerms
pub mod ProperPatterns
pub mod ProperStrands
pub mod ProperItems
pub mod ProperTrees
pub mod ProperReports
pub mod SpelledTerms
pub mod SpelledRoles
pub mod SpelledStrands
pub mod SpelledProblems
pub mod SpelledInput
pub mod Under
pub mod NoOtherStrings
pub mod Forms
pub mod Collapses
pub mod Roots
pub mod Generalised
pub mod Applied
pub mod Changes
pub mod FormSubstitutions
pub mod OpenedPatterns
pub mod Settled
pub mod Children
pub mod Enclosed
pub mod Expansions
pub mod Labels
pub mod OwnVariables
mod KeptNodes
mod NamedChildren
mod ProblemMaps
mod LabelPatterns
mod LabelPlaces
mod LabelFields
mod StatedTrees
mod ExampleRoots
mod ExampleVariables
mod BackRenamings
mod SameStrands
pub mod SameMaps
mod SameRealised
mod SameStated
mod SameUnrealised
mod SameTrees
mod FittingPairs
pub mod DenotedTrees
mod ExamplePairs
