pub mod Marks
pub mod Fair
