pub mod Single
pub mod Waited
pub mod Narrowing
pub mod Finished
pub mod Steps
pub mod Course
pub mod Records
