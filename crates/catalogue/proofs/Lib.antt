-- The laws of catalogues: what is known where nothing is refused, and what the tests, the sets and the steps of a survey go by.
pub mod Settled
pub mod Sane
pub mod Computed
pub mod Indexed
pub mod Searches
pub mod Names
pub mod Totals
pub mod Order
pub mod Sets
pub mod Spanned
pub mod Surveyed
