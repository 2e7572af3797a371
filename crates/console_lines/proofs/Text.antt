-- Bytes as text: parts between separators, what a line means, and answers as they are shown and put into a buffer.
pub mod Splits
pub mod Lines
pub mod Puts
pub mod Shows
