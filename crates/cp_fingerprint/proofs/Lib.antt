mod AddedPlaces
mod FoundInTurn
mod GrownHeights
mod PlaceShares
mod RolesByPlace
mod SkeletonHeights
mod SortedLists
mod SumsBeside
mod ValuePlaces
pub mod Listed
pub mod Listened
pub mod NoMore
pub mod SharedMore
pub mod SignatureData
pub mod Signatures
pub mod StrandSums
pub mod ChainPlaces
pub mod ChainRounds
pub mod ChainWeights
pub mod HeaviestChains
