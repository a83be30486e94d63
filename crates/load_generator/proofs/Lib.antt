pub mod CoverLemmas
pub mod EndLemmas
pub mod LoadLemmas
pub mod SweepLemmas
