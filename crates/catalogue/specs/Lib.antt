-- The tables of a catalogue, its refusals, the problem that it gives and the survey of it; then what the parts and the steps of a survey answer.
pub mod Tables
pub mod Refusals
pub mod Gives
pub mod Survey
pub mod Parts
pub mod Steps
pub mod Spans
