-- What the contracts of forms cite.
pub mod Layout
