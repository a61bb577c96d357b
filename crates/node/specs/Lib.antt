-- What is sought at a node, what narrowing promises, and what each of its steps gives.
pub mod Arrows
pub mod Banning
pub mod Clashing
pub mod Facts
pub mod Grounding
pub mod Members
pub mod Narrowing
pub mod Order
pub mod Reaching
pub mod Settling
pub mod Sought
pub mod Steps
