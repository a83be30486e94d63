pub mod Hexadecimal
pub mod Identifiers
