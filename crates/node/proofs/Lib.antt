-- The laws of the steps of narrowing: why none of them loses a plan that is sought.
pub mod Affording
pub mod Arrows
pub mod Banning
pub mod ClashBanning
pub mod Clashing
pub mod Compared
pub mod Few
pub mod Grounding
pub mod Left
pub mod Lower
pub mod Narrowing
pub mod Preceding
pub mod Reaching
pub mod Settling
pub mod Slotted
pub mod Stores
