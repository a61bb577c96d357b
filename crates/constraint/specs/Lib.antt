-- Constraints: what they mean, how they are spelled, what reading one may answer, and what the readers of its parts answer.
pub mod Meaning
pub mod Numeral
pub mod Spelling
pub mod Reading
pub mod Selection
pub mod Range
pub mod Reader
