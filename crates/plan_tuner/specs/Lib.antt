-- What the crate's contracts cite: the rules of the plan tuner, SPEC 9.
pub mod Aot
