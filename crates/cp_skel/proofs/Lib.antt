pub mod FromProblemWithout
mod GivenElsewhere
mod ListsWithout
pub mod NumbersWithout
pub mod OrderWithout
pub mod PairsWithout
pub mod SkeletonWithout
pub mod OrderKept
pub mod SameNode
pub mod Once
pub mod GivenParts
pub mod Placed
pub mod ValuedTerms
pub mod Changed
pub mod Grown
pub mod StaySkeletons
pub mod EachOnce
mod AlreadyListed
mod KeyLaws
pub mod StrandsGive
pub mod DeclaredChanges
pub mod CarriedHomomorphisms
pub mod EventLists
pub mod SoundSkeletons
mod AddedPairs
pub mod TableAlone
mod VariablesOfLists
pub mod ThreeLists
pub mod FourParts
mod NumberedEvents
