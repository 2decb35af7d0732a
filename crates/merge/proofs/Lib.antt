pub mod Joining
pub mod Turning
pub mod Only
pub mod Both
pub mod Told
