-- The layout of the text, what a text says, and what reading one may answer.
pub mod Layout
pub mod Says
pub mod Reading
pub mod Reader
pub mod Walk
pub mod Numbering
pub mod Filling
