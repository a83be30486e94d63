pub mod AlphabetLemmas
pub mod IdentifierLemmas
pub mod NumberLemmas
