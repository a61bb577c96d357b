-- The laws behind a check of a plan: tests, walks through a set, what is reached, closed rows, totals and the first fault.
pub mod Amounts
pub mod Carried
pub mod Closing
pub mod Every
pub mod Faults
pub mod Outcome
pub mod PairTests
pub mod Reaching
pub mod Repeated
pub mod SlotTests
pub mod Tables
pub mod Totals
pub mod Trails
pub mod Unseen
