pub mod FarmDrive
pub mod FarmRunning
pub mod FarmWords
