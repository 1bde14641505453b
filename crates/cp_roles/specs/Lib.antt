pub mod Named
pub mod Above
pub mod Mapped
pub mod InstanceTerms
pub mod MadeStrands
