pub mod ServerPorts
pub mod Top
pub mod VisitWords
