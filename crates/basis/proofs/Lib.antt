-- The laws that every crate shares: of answers and tests, lists, rows and sums.
pub mod Answers
pub mod Decide
pub mod Lists
pub mod Refusals
pub mod Rows
pub mod Runs
pub mod Split
pub mod Sums
