pub mod Fits
pub mod Names
