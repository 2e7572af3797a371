-- Notes and their pitches, division in f64, the nearest note and its detuning.
pub mod Notes
pub mod NotePitches
pub mod Division
pub mod MeasureFactor
pub mod NearestNote
pub mod NearestDetuning
pub mod Octaves
