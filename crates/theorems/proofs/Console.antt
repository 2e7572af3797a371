-- The console program: its grammar, its refusals, and input in pieces.
pub mod Grammar
pub mod Refusals
pub mod Streaming
pub mod Runs
