-- What every crate shares: byte strings, lists, rows of refusals, sums and tests.
pub mod Bytes
pub mod Lists
pub mod Rows
pub mod Sum
pub mod Tests
