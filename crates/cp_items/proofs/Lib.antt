pub mod InBlocks
pub mod FitItems
pub mod EachAsked
