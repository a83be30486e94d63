pub mod History
pub mod Liveness
pub mod Machine
pub mod Profiles
pub mod Verdicts
