-- What the contract and the theorems of lit cite, and a reader has to believe.
pub mod Lit
pub mod Numbering
