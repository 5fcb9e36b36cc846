pub mod Blocks
pub mod Entries
pub mod Received
pub mod Says
pub mod Promises
pub mod Whose
pub mod Examples
pub mod laws
