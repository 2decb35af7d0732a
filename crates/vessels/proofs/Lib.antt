pub mod Agreement
pub mod FirstHit
pub mod Meeting
pub mod Outcomes
pub mod Settling
