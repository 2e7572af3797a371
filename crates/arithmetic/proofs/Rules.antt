-- What a call answers by its rule, and which refusals a rule gives.
pub mod Outcomes
pub mod Refusals
