pub mod Settled
pub mod Sending
pub mod Receiving
pub mod Calls
pub mod Says
pub mod Nine
