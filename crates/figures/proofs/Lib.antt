pub mod Written
pub mod Filling
pub mod Course
pub mod Brewing
pub mod Giving
pub mod Turning
pub mod Shown
