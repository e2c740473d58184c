pub mod Doors
pub mod Inks
pub mod Stepping
pub mod Going
pub mod Refusals
pub mod Sides
pub mod Slices
