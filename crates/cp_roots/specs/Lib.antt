pub mod Over
pub mod Roots
pub mod Sound
pub mod GatheredRoots
