-- The laws of sets of entries: what fixes a set, sets made of others, counts of members, the lowest member, sets within others, and walks over the members.
pub mod Counts
pub mod Least
pub mod Made
pub mod MemberWalk
pub mod Sets
pub mod Subsets
