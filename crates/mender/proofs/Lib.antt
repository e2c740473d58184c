-- First what the proofs of the functions cite, then the theorems of T-14.
pub mod Walking
pub mod Reporting
pub mod Counting
pub mod Writing
pub mod Mending
pub mod Cases
pub mod Opcodes
pub mod Clean
pub mod CleanWalks
pub mod Afterwards
pub mod Steps
pub mod Exactly
pub mod Program
