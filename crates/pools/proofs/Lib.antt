-- Laws of the definitions, and the theorems about them.
pub mod Queues
pub mod Pools
pub mod Models
