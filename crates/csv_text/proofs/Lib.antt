-- The laws of the text: that it is laid out in one way at most, and what the readers of its parts go by.
pub mod Unique
pub mod Decided
pub mod Outcome
pub mod Tables
pub mod Words
pub mod Fields
pub mod Lines
pub mod Found
pub mod Walks
pub mod Counted
pub mod Names
pub mod Known
pub mod Rows
pub mod Filled
pub mod Answers
pub mod Accepted
