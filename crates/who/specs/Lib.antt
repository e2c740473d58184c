-- What the contracts and theorems of who cite.
-- What a reader has to believe:
pub mod Who
-- What only functions inside the box promise:
pub mod Following
