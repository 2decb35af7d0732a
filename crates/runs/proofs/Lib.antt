pub mod Outcomes
pub mod Taking
pub mod Courses
