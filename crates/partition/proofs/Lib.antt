pub mod FarmLemmas
pub mod HomeLemmas
pub mod KeyLemmas
pub mod ScriptLemmas
pub mod ShareLemmas
pub mod TakeLemmas
