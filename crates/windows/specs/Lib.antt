pub mod Windows
pub mod Crowds
pub mod Placing
pub mod Theorems
