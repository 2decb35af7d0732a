pub mod Laws
pub mod Cells
pub mod Positions
pub mod Runs
