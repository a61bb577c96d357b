-- Sets of entries, and what the functions over them answer.
pub mod Bits
pub mod Changes
pub mod Search
pub mod Walk
