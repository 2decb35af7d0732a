pub mod Contents
pub mod Outcomes
