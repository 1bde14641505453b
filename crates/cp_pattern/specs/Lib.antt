pub mod Candidates
pub mod Unifiers
pub mod Opened
pub mod Said
pub mod Outside
pub mod HeardTerms
pub mod Within
pub mod Sent
