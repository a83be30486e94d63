pub mod EndLemmas
pub mod FieldLemmas
pub mod LineLemmas
pub mod SectionLemmas
pub mod ReaderLemmas
