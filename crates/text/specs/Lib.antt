pub mod Bytes
pub mod Items
pub mod Number
pub mod Decimal
pub mod Hexadecimal
pub mod Puts
