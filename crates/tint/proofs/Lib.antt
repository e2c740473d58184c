-- What follows from the rules:
pub mod Shows
-- The laws that proofs cite:
pub mod Hues
