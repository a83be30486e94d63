pub mod Blocks
pub mod Failures
pub mod Keeping
pub mod Opening
pub mod Rows
pub mod Told
