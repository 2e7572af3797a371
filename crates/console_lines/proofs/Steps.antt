-- What the console does: a line answered, a piece of the input taken, and how much room that needs.
pub mod Playing
pub mod Rooms
pub mod Ends
pub mod Stepping
pub mod Progress
