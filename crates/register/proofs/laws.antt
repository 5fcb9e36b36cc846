pub mod Steps
pub mod Nearest
pub mod Distance
pub mod Free
