pub mod Feeding
pub mod Status
pub mod Flow
pub mod LoopRunning
pub mod Ending
