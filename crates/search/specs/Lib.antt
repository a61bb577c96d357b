-- What the search promises, in all, in one round and at one node.
pub mod Found
pub mod Picks
pub mod Ranking
pub mod Walks
