pub mod Sent
pub mod Taken
pub mod Promise
pub mod Totals
pub mod Ties
pub mod Lost
