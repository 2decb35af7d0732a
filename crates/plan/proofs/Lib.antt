pub mod Openings
pub mod Narrowings
pub mod Nexts
pub mod Crowding
pub mod Staging
pub mod Settling
pub mod Stocks
