pub mod MarkMeanings
pub mod FreeNames
pub mod Tables
pub mod NamesByFlags
pub mod LaterNames
pub mod LocalsInOrder
pub mod LocalsFound
