-- What the contracts cite.
pub mod Desks
pub mod Sizes
pub mod Faults
pub mod Tables
pub mod Commands
pub mod Fields
pub mod Lists
pub mod Sets
