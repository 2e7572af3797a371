-- What the crate's contracts cite: keys and channel lists (SPEC 1), where keys are found, and the values in which a detuning is sent (SPEC 5).
pub mod Outcome
pub mod Refusal
pub mod Lists
pub mod FirstRefusal
pub mod Keys
pub mod Places
pub mod Channel
pub mod ChannelList
pub mod TuningValue
