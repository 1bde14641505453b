pub mod Chosen
pub mod GrownTables
pub mod WidenedOnce
pub mod ChildPatterns
pub mod Tables
pub mod OnceMore
pub mod TestsAreTests
pub mod Expansions
