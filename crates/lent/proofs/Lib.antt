-- What a register shows; and what the proofs of act, draw and step share.
pub mod LentLaws
pub mod Acting
