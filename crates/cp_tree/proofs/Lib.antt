mod Acyclic
pub mod Numbered
pub mod Settled
pub mod Cases
pub mod ByRule
pub mod Picked
pub mod SoundLabels
pub mod MarksSay
pub mod MadeChildren
mod TreeEdges
mod PassedStandings
pub mod Placed
mod ReachedLimits
mod ExactLimits
mod TreeShapes
mod TrueTrees
mod NormalChildren
pub mod AskedOn
pub mod SoundExpansions
mod ExampleRoot
mod ExampleTree
mod Causes
mod DeclaredLabels
pub mod OwnVariables
mod CandidatesEmbed
mod NoStep
mod SoundGeneralisations
mod GeneralisedOnce
pub mod SoundOrGeneralised
mod ExampleGeneral
