pub mod Making
pub mod Sides
pub mod Slices
