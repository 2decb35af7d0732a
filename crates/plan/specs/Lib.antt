pub mod Told
pub mod Next
pub mod Stages
pub mod Plans
