pub mod Commands
pub mod Numbers
pub mod Reading
pub mod Walks
pub mod Writing
