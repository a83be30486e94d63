pub mod RequestLaws
pub mod RequestHeads
pub mod Requests
