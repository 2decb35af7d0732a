pub mod Found
pub mod Fronts
pub mod Searching
pub mod Walked
