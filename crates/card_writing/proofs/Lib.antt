pub mod Bytes
pub mod Walked
pub mod Tables
pub mod Passing
pub mod Whole
pub mod Finished
