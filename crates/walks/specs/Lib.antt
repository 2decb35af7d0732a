pub mod Matrices
pub mod Codes
pub mod Theorems
