pub mod Entries
pub mod Says
pub mod Promises
pub mod Settled
pub mod Ten
