pub mod Measures
pub mod Weighing
pub mod Next
