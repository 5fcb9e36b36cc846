pub mod Tables
pub mod FullRate
