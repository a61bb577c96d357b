-- What the program prints, and how it comes to stand in a lent buffer.
pub mod Output
pub mod Adding
pub mod Telling
