pub mod AlongPairs
pub mod ComposedPairs
pub mod JoinedPairs
mod LookedUp
mod GatheredNodes
mod PairsInOrder
