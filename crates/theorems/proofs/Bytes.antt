-- Bytes as a reader that follows the Specification reads them.
pub mod Reading
pub mod Read
pub mod Accepted
