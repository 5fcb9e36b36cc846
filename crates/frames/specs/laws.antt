pub mod Printed
pub mod Layout
