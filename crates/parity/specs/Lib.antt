pub mod Division
pub mod Asked
pub mod laws
