pub mod PredecessorNodes
pub mod Sorted
pub mod Closed
pub mod Composed
pub mod Rows
