-- What a receiver that follows the Specification ends up with after the calls of both tuners.
pub mod Receiving
pub mod Received
pub mod Conveyed
pub mod BothTuners
pub mod PlanTuner
pub mod TunedKeys
pub mod PoolTuner
