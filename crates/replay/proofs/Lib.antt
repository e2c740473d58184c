-- First what the proof of the loop cites, then the theorems of T-12.
pub mod Blind
pub mod Going
pub mod Recording
pub mod Agreement
pub mod Program
pub mod Cases
