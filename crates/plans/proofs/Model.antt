-- A plan model: its records of keys, and what its lookups find in them.
pub mod Models
pub mod Records
pub mod Views
pub mod Entries
pub mod Largest
pub mod NextEntry
pub mod Lookups
pub mod Tunings
