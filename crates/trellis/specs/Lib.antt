pub mod Nearest
pub mod Lost
pub mod laws
