-- Document 02, T-09 in definitions: what a reader must believe of the checker is `Checked` and `Reading`.
pub mod Reading
pub mod Checked
pub mod Sums
