pub mod CompleteLemmas
pub mod RunLemmas
