-- Planning as a whole, and demand 3.
pub mod Plan
pub mod Planned
pub mod Demand3
