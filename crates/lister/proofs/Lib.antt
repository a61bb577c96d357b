-- The laws of asking and turning, and that each call has one outcome.
pub mod Numbered
pub mod Asked
pub mod Asks
pub mod Outcome
pub mod TurnCore
pub mod TurnOutcome
pub mod TurnedOver
