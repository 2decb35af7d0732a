pub mod Kept
pub mod Props
