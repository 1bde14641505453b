pub mod Codes
pub mod Held
pub mod InMemory
pub mod Outside
pub mod Statuses
pub mod Streams
pub mod Growing
