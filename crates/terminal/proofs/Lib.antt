pub mod Fitting
pub mod Sharing
pub mod Putting
pub mod Painting
pub mod Lighting
pub mod Summing
pub mod Lining
pub mod Examples
