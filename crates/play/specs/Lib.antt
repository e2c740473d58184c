-- What the contracts cite.
pub mod Pages
pub mod Ends
