-- The tuners and messages: their refusals, and what holds after any calls.
pub mod Refusals
pub mod Retrigger
pub mod Demand1
pub mod Planning
pub mod PlanTunerCalls
pub mod PoolTunerCalls
