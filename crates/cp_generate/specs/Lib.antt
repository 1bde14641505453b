pub mod Placed
pub mod Generated
