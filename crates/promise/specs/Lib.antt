pub mod Charts
pub mod Plans
pub mod Promise
