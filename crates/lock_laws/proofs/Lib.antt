pub mod EntryLemmas
pub mod WordsLemmas
pub mod LegalLemmas
pub mod LawLemmas
pub mod Examples
pub mod WayLemmas
pub mod FaultLemmas
