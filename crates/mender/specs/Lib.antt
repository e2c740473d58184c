-- Document 02, T-14 in definitions: what a reader must believe of the mender is `Walk`, `Report` and `Mended`; `Walks` is what its theorem says of the list.
pub mod Walk
pub mod Report
pub mod Mended
pub mod Walks
pub mod Replaced
