pub mod Number
pub mod Coordinate
pub mod Place
