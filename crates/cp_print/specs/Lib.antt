pub mod Named
pub mod MarkedForms
pub mod Order
pub mod Chosen
pub mod WrittenForms
pub mod Parts
pub mod Spelled
