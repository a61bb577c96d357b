-- The laws of drawing from prices.
pub mod Drawing
pub mod Units
pub mod Worth
pub mod FirstMembers
pub mod Filling
pub mod Bounds
pub mod Needed
pub mod Grounds
