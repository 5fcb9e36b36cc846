pub mod Hub
pub mod Says
pub mod Classroom
pub mod Examples
pub mod laws
