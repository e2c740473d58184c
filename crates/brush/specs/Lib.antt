-- What the contracts and theorems of brush cite.
pub mod Brush
pub mod Near
