pub mod Kept
pub mod Entered
