pub mod Tables
pub mod FullRate
pub mod laws
