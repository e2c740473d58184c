-- What any player is: Painting to Run. Demand 3 for any two sides: Pane to Promised. Who obeys its laws: Drawing to Keeps.
-- Demand 1 for a refused opcode: Stands. A budget in slices: Slices, InTurns. A player's door and loop: Door, Refusals, Shown. T-08, who painted a dot: Writing, Tinted. Small players: Toy, Stray.
pub mod Painting
pub mod Player
pub mod Reply
pub mod Run
pub mod Pane
pub mod Mixing
pub mod Obeys
pub mod Undisturbed
pub mod Promised
pub mod Drawing
pub mod Hosted
pub mod Keeps
pub mod Stands
pub mod Slices
pub mod InTurns
pub mod Door
pub mod Refusals
pub mod Shown
pub mod Writing
pub mod Tinted
pub mod Toy
pub mod Stray
