-- Notes, their pitches and detunings, and the nearest note.
pub mod Bounds
pub mod Pitches
pub mod Detunings
pub mod Nearest
pub mod Boundaries
