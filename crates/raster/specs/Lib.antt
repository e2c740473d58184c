-- What the contracts and theorems of raster cite.
-- What a reader has to believe:
pub mod Shapes
pub mod Frame
pub mod Paint
pub mod Stores
-- What only functions inside the box promise:
pub mod Biased
pub mod Rects
pub mod Parts
