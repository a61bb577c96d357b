-- Prices of entries, what is drawn from them, and what they have to do with a plan's cost.
pub mod Prices
pub mod Worth
pub mod Kinds
pub mod Floor
pub mod Needed
