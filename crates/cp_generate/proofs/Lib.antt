pub mod PlainPieces
pub mod Spelled
pub mod TextRead
pub mod WellFormed
pub mod Lengths
pub mod StillToPut
