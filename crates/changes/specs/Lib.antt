pub mod Changes
pub mod Tests
pub mod Faults
