pub mod Division
pub mod Brought
pub mod Generators
