pub mod Same
pub mod Put
pub mod Plain
pub mod Hexadecimal
pub mod Decimal
