-- The laws of fields, of decimal and of hexadecimal digits.
pub mod Places
pub mod Decimals
pub mod Hexadecimal
