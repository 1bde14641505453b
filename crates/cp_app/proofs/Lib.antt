mod ReportsBack
mod ProperAnalyses
pub mod PutPieces
pub mod TakenPieces
pub mod Trees
mod CommandCases
mod AnsweredReports
pub mod Endings
mod BenchTotals
