mod Bits
mod Storing
mod Putting
mod Chunks
mod Examples
