-- The laws of constraints: that a part is read as at most one, and what the readers of its parts rest on, from bytes and numbers to pairs.
pub mod Beginnings
pub mod Bounded
pub mod Decided
pub mod Fields
pub mod Forms
pub mod Numbers
pub mod Numerals
pub mod Outcome
pub mod Packed
pub mod Pairs
pub mod Picked
pub mod Selecting
pub mod Tests
pub mod Texts
pub mod Unique
pub mod Words
