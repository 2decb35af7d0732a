pub mod Faults
pub mod Order
pub mod Marks
pub mod Cards
pub mod Told
pub mod Finds
pub mod Source
