pub mod Overwrites
pub mod Spelling
pub mod Walking
pub mod Writes
