-- The state that a model in memory stands for: as it is opened, after a change, and the channel that a press gets in it.
pub mod Views
pub mod FreshViews
pub mod Allocations
