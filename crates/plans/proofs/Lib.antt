-- Laws of the definitions, and the theorems about them, in folders named for what they are about.
pub mod Lines
pub mod Walk
pub mod Model
pub mod Planning
