pub mod Octets
pub mod Frame
pub mod Answers
pub mod Says
pub mod Promises
pub mod Examples
pub mod laws
