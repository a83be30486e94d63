pub mod ByteStringLemmas
pub mod PortLemmas
