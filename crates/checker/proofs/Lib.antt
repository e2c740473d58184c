-- First what the proofs of the readers cite, then the theorems of T-09.
pub mod Caps
pub mod Places
pub mod Sequences
pub mod Blocks
pub mod Lists
pub mod Cases
pub mod Reach
pub mod Steps
pub mod Following
pub mod Finishes
pub mod Alike
pub mod Program
