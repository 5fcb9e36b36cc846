pub mod Within
pub mod Decimal
pub mod Text
pub mod Hexadecimal
