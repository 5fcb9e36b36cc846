pub mod Places
pub mod Four
pub mod Table
