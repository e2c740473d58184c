-- First what the proofs of the functions cite, then the theorems.
pub mod Lines
pub mod Blocks
pub mod Appends
pub mod Program
pub mod Cases
