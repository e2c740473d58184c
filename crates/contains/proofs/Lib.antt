-- The laws that proofs cite, here and in the crates above:
pub mod Offsets
pub mod Members
pub mod Distances
pub mod Figures
