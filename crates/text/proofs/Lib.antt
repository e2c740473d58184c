pub mod Joining
pub mod Parting
pub mod Tables
mod Reading
pub mod Decimals
pub mod Numbers
mod Spelling
pub mod Writing
mod Examples
