pub mod Split
pub mod Grammar
pub mod Line
pub mod Show
pub mod Console
pub mod ConsoleState
pub mod Internal
