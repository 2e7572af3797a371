-- Messages: which are valid, their bytes, and how many these are.
pub mod Messages
pub mod Bends
pub mod Sizes
pub mod Room
