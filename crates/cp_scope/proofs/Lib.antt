pub mod FirstOf
pub mod Firsts
pub mod EachForm
pub mod Items
pub mod Views
pub mod Sizes
pub mod TermSorts
mod MissingItems
pub mod Judged
pub mod PairedTerms
pub mod Meanings
pub mod DeclaredIdentifiers
pub mod Gathered
pub mod NamesInUse
pub mod DeclaredVariables
