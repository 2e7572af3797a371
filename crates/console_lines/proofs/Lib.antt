-- Laws of the definitions, and the theorems about them.
pub mod Text
pub mod Steps
