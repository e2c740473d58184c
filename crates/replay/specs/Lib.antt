-- Document 02, T-12 in definitions: what a reader must believe of a replay is `Entries` and `Replay`; `Session` is what its theorem speaks of.
pub mod Entries
pub mod Replay
pub mod Session
