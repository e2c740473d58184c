-- What the contracts of act cite.
pub mod Conditions
pub mod Calculations
