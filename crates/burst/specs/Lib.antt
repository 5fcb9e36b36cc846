pub mod Numbers
pub mod Ring
pub mod Held
