-- The rules of a pool model: found keys, releases, presses.
pub mod HeldKeys
pub mod Releases
pub mod PressCases
pub mod Presses
