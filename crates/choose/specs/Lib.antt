pub mod Bounds
pub mod Calmest
pub mod Choosing
pub mod Classes
pub mod Views
