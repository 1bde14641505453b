mod DerivableParts
mod PartsAbove
mod FirstClosed
mod TermsOnce
mod Before
pub mod EscapeGuards
mod SameValues
mod SameStrandLists
mod StillClosed
mod LastSent
mod NewVariables
pub mod Widened
