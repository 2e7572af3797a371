-- Pools: no channel is lost, which presses are rejected, refusals, presses of held keys.
pub mod Occurrences
pub mod Kept
pub mod Settings
pub mod OnePool
pub mod Changes
pub mod Invariant
pub mod Answers
pub mod Stop
pub mod Refusals
pub mod Presses
pub mod Retrigger
pub mod Pitches
