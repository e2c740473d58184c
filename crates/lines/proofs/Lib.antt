-- What follows from the rules:
pub mod Stores
pub mod Floor
pub mod Directions
pub mod LineEnds
pub mod Patterns
pub mod Moved
pub mod Pictures
-- The laws that proofs cite, here and in the crates above:
pub mod Sides
pub mod Courses
pub mod Spans
pub mod Walks
pub mod Paces
pub mod Going
pub mod Drawn
