-- The laws of plans: their conditions, their order, and that the listing exists and is one.
pub mod Order
pub mod Fixed
pub mod Listing
pub mod Walks
pub mod Descent
pub mod Conditions
pub mod Sorted
pub mod Enumerated
pub mod Duplicates
pub mod Refit
