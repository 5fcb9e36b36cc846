pub mod Order
pub mod Loops
