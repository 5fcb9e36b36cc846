pub mod Paths
pub mod Candidates
pub mod Nearest
pub mod Distance
pub mod Missing
pub mod Lost
pub mod Steps
pub mod Memory
