-- The walk that gives keys their channels, and the pass over the lines by which the code does it.
pub mod Joins
pub mod Sweep
pub mod Carried
pub mod Assignments
pub mod OnePass
pub mod Slots
pub mod Pass
