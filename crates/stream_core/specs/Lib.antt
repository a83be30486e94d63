pub mod Connection
pub mod Whole
