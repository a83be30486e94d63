pub mod CompleteLemmas
pub mod EndingLemmas
pub mod PlainRunLemmas
pub mod ProgressLemmas
pub mod ResponderLemmas
