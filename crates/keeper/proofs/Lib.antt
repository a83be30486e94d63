pub mod PairLemmas
pub mod MapLemmas
pub mod DueLemmas
pub mod OrderedLemmas
