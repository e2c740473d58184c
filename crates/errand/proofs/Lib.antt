mod Lines
mod Putting
mod Paths
