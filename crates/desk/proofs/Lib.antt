mod Deskwise
mod Letters
mod Listing
mod Naming
mod Sizing
