pub mod Refusals
pub mod Invariant
pub mod Entering
pub mod Questions
pub mod Asking
pub mod Rules
pub mod Admitting
