-- Arithmetic's words for what a call answers, SPEC 1.9, passed on to the crates above.
pub use Rattle.arithmetic.specs.Outcome.{Outcome, value, refused, refuse◌unless◌then◌}
