pub mod Minimal
pub mod Instances
pub mod RisingRows
pub mod Found
pub mod Gathered
pub mod InstancesByEmbeddings
pub mod Standings
