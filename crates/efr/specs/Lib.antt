pub mod Answers
pub mod Entries
pub mod Says
pub mod Promises
pub mod Examples
