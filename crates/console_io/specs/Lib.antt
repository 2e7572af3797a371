-- The words of the program between its calls of the system, SPEC 10.7.
pub mod Stream
pub mod Failure
pub mod Bytes
