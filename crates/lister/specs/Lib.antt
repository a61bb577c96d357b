-- What first, next and turn may answer, and what it is to ask over and over.
pub mod Answers
pub mod Asking
pub mod Given
pub mod Turns
