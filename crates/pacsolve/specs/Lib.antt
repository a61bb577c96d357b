-- The problem, its plans, their cost and order, and the listing.
pub mod Problem
pub mod Plan
pub mod Cost
pub mod Order
pub mod Listing
