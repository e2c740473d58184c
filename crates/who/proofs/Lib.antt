-- What follows of the program's answers, and some of them by computation:
pub mod Program
pub mod Cases
-- The laws that proofs cite:
pub mod Dots
pub mod Numbers
