pub mod AssumptionEntries
pub mod ProblemMap
