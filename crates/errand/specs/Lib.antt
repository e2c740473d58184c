-- What the contracts cite.
pub mod Numbers
pub mod Panes
pub mod Words
pub mod Paths
