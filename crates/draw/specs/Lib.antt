-- What the contracts of draw cite.
pub mod Point
