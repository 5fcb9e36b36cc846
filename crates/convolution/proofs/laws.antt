pub mod Pairs
pub mod Linear
pub mod Table
