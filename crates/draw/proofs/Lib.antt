-- What the proofs of draw's functions cite.
pub mod PointLaws
