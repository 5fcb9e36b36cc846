pub mod Marks
pub mod Counted
pub mod Fair
pub mod Channels
pub mod Accepted
pub mod SpeechAccepted
pub mod Sent
