-- Laws of the definitions, and the theorems about them.
pub mod Bytes
pub mod Tuners
