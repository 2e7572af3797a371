-- What the crate's contracts cite, SPEC 2.1, 3 and 4, a file for each subject; `Internal` is for its private functions.
pub mod Refusal
pub mod Outcome
pub mod Division
pub mod Note
pub mod Pitch
pub mod Powers
pub mod Measure
pub mod Nearest
pub mod Detuning
pub mod Answers
pub mod Internal
