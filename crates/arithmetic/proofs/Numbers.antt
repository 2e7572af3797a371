-- Whole numbers, integers, floats, and tables.
pub mod Integers
pub mod Quotients
pub mod Powers
pub mod Floats
pub mod UniqueFloats
pub mod Tables
