pub mod Brews
pub mod Theorems
