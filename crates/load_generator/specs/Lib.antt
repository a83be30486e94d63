pub mod StatusCounting
pub mod Load
pub mod LoadRun
pub mod LoadRunning
pub mod LoadSteps
