-- The laws of the output: how it comes to stand in the buffer, and that it is one.
pub mod Adding
pub mod Records
pub mod Telling
pub mod Showing
pub mod Reading
pub mod Outcome
