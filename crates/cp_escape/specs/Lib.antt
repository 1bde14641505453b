pub mod Sent
pub mod Escape
pub mod ClosedEncryptions
pub mod WidenedPattern
pub mod UsedVariables
