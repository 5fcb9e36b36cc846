pub mod Sheet
pub mod Examples
