pub mod Windows
pub mod Empty
pub mod Charting
pub mod Admitting
