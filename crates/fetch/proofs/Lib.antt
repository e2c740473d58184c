pub mod Taking
pub mod Steps
