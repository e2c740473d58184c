-- What the contracts cite.
pub mod Views
pub mod Spans
pub mod Lights
pub mod Means
pub mod Cells
pub mod Lines
