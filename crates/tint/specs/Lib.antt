-- What the contracts and theorems of tint cite.
pub mod Tint
