-- What a check of a plan may answer, and what each function behind it gives.
pub mod Check
pub mod Closure
pub mod Growth
pub mod Judged
pub mod Pairs
pub mod Posing
pub mod Repeats
pub mod Slots
