pub mod NumberLemmas
pub mod ByteStringLemmas
pub mod SplitLemmas
