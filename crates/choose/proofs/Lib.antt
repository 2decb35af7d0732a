pub mod Backwards
pub mod Calm
pub mod Rounds
pub mod Whole
