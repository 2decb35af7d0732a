pub mod Holding
pub mod Lasting
