mod Origins
pub mod Items
pub mod Occurrences
pub mod FirstOrigins
pub mod ValuedItems
pub mod SameLists
pub mod InstanceTraces
mod GivenValues
pub mod FirstEvents
