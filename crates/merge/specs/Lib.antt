pub mod Refusals
pub mod Reports
pub mod Books
pub mod Merging
pub mod Turns
