-- Plans: refusals, entries, and the plan key by key. That no placing needs fewer channels, which contracts cite, stands in Demand3 of `plans`.
pub mod Refusals
pub mod Entries
pub mod PlannedKeys
pub mod Pitches
pub mod Stable
