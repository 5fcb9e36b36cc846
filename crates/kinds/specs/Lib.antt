pub mod Kinds
pub mod Says
pub mod laws
