-- What the contracts cite.
pub mod Colours
pub mod Checksums
pub mod Png
