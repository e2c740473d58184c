-- A player whose opcodes paint in other colours, and do all else alike (T-08's picture of who painted what).
use Rattle.std.specs.Prelude.{ℕ}
use Rattle.player.specs.Painting.{Painting}
use Rattle.player.specs.Player.{Outcome, done, refused, Player}

-- the same dots in the colour c
abbrev pub in_colour : ℕ → Painting → Painting
in_colour c p = record { frame = p.frame; shape = p.shape; colour = c }

abbrev pub outcome_in : {E : Type 0} → ℕ → Outcome E → Outcome E
outcome_in c (done e' p) = done e' (in_colour c p)
outcome_in c (refused v) = refused v

-- every opcode in the colour that `tint` tells of the environment before it
abbrev pub tinted : {E : Type 0} → (E → ℕ) → Player E → Player E
tinted tint P = record { state = P.state; stop = P.stop; step = λ e. outcome_in (tint e) (P.step e) }
