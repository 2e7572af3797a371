-- Laws of the definitions, and the theorems about them, in folders named for what they are about.
pub mod Rules
pub mod Numbers
pub mod Notes
pub mod Measure
