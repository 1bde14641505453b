pub mod FirstMisfit
pub mod Tables
pub mod LocalParts
pub mod Views
pub mod Own
