-- The laws of the walk and of its rounds.
pub mod Complete
pub mod Falls
pub mod Foremost
pub mod Going
pub mod Halves
pub mod Keeping
pub mod Leading
pub mod Looping
pub mod Picking
pub mod Rounds
pub mod Search
pub mod Slots
