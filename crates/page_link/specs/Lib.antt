pub mod Exchanges
pub mod LinkInMemory
pub mod Links
pub mod VisitTurns
pub mod Visits
