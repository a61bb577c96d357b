-- That each function has one outcome.
pub mod Outcome
