-- What the contracts and theorems of lines cite.
-- What a reader has to believe:
pub mod Line
pub mod Dashes
-- What only functions inside the box promise:
pub mod Courses
pub mod Spans
pub mod Walks
