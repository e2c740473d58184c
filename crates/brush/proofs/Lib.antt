-- What a brush's invariant says of what it holds; what is drawn from moved points; and lists of a known length.
pub mod Brushes
pub mod Placing
pub mod Spelt
