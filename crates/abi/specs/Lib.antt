-- What crosses to C and back.
pub mod Crossing
