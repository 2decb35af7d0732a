pub mod Bounds
pub mod Alone
pub mod Together
