-- What the contracts of the functions for C cite, SPEC 12.
pub mod Answers
pub mod Message
pub mod Entry
