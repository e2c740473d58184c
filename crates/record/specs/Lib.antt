-- Document 02, T-12 in definitions: what a record is. All three have to be believed.
pub mod Block
pub mod Read
pub mod Append
