-- What the contracts cite.
pub mod Digits
