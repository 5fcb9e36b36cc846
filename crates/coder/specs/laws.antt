pub mod Format
pub mod Reordered
pub mod Whose
