-- Laws about the definitions of `specs/`.
pub mod Tunings
pub mod PlanCalls
