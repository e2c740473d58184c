-- What the proofs of step's functions cite.
pub mod Groups
pub mod Stepping
