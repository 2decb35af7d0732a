pub mod Checks
pub mod Finding
pub mod Marking
pub mod Progress
