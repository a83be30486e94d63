pub mod HearingLemmas
pub mod LinkLemmas
pub mod RuleLemmas
pub mod TurnLemmas
pub mod VisitLemmas
