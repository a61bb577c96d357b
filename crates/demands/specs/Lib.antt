-- The demands, and what else is claimed of all the calls together.
pub mod Claims
pub mod Bench
pub mod Excluded
pub mod Outcomes
pub mod Demands
pub mod Liars
pub mod Program
