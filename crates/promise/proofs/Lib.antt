pub mod Planning
pub mod Keeping
pub mod Comparing
