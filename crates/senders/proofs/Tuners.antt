-- Calls of a tuner: how a call ends, what is sent on the channels of its list, and what the pool tuner's calls come to.
pub mod Buffer
pub mod Channels
pub mod Tunings
pub mod Calls
