mod Padding
mod Others
pub mod Terminated
