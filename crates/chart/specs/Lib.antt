pub mod Answers
pub mod Totals
pub mod Says
