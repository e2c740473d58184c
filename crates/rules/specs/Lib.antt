-- Document 01 in definitions: what a reader must believe.
pub mod Types
pub mod Op
pub mod Operands
pub mod Meaning
pub mod Table
pub mod Environment
pub mod Conditions
pub mod Opcodes
pub mod Step
pub mod Door
pub mod Fresh
