pub mod Turns
pub mod Inks
