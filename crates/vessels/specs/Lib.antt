pub mod Refusals
pub mod Replies
pub mod Sharing
pub mod Vessels
