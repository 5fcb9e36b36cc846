pub mod Promise
pub mod Totals
pub mod Ties
pub mod Lost
pub mod Examples
