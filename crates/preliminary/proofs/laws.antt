pub mod Stage
pub mod Parts
pub mod Protected
