mod Putting
pub mod Spelled
