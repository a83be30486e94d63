pub mod Farm
pub mod FarmStands
pub mod Limited
pub mod Shares
