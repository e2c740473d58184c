-- What follows from the rules:
pub mod Circles
pub mod Moved
-- The laws that proofs cite, here and in the crates above:
pub mod Squares
pub mod Distances
pub mod Reaches
pub mod Columns
pub mod Pairs
pub mod Sheets
pub mod Nearer
