-- What the contracts and theorems of circles cite.
-- What a reader has to believe:
pub mod Circle
-- What only functions inside the box promise:
pub mod Reaches
pub mod Sheets
