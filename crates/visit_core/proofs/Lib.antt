pub mod EventLemmas
pub mod PastLemmas
pub mod ReleaseLemmas
pub mod StepLemmas
