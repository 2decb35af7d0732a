pub mod Adding
pub mod Bounding
pub mod Whole
