pub mod Faults
pub mod Grown
