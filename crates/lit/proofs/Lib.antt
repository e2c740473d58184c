-- What follows from the rules:
pub mod Limit
pub mod Answers
pub mod DashedLines
pub mod OneNumber
-- The laws that proofs cite:
pub mod Counting
pub mod Gathering
pub mod Runs
pub mod Leftover
