pub mod IdentifierLemmas
