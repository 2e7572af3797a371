-- The lines of a plan: which are accepted, how they are checked, and their order.
pub mod Check
pub mod Accepted
pub mod Rising
pub mod Insertion
pub mod SortedKeys
