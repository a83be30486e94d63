pub mod Acts
pub mod OutcomeText
pub mod VisitRule
pub mod Stages
pub mod Tables
pub mod Terms
