pub mod Sending
pub mod Receiving
pub mod Says
pub mod Calls
pub mod laws
