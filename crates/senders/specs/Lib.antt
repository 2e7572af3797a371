-- What the crate's contracts cite: the rules of bytes, and what the MIDI 1.0 Detailed Specification 4.2.1 makes of bytes.
pub mod Buffer
pub mod Message
pub mod Midi
pub mod Records
pub mod Mts
pub mod Tuner
pub mod Jit
pub mod Answers
pub mod Event
