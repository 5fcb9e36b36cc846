pub mod Steps
pub mod Memory
