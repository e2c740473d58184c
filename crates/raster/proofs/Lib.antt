-- What follows from the rules:
pub mod Paintings
pub mod Stores
-- The laws that proofs cite, here and in the crates above:
pub mod Tests
pub mod Points
pub mod Recolour
pub mod Coordinates
pub mod Words
pub mod Moved
pub mod Rectangles
pub mod Pixels
pub mod SomeBelow
pub mod Parts
pub mod Rows
pub mod Drawings
