-- Document 02, T-08, who painted this dot, of any player: the last opcode of a run that writes it.
use Rattle.std.specs.Prelude.{ℕ, suc, Bool, cond, ◌&&◌, List, [], ◌∷◌}
use Rattle.raster.specs.declared.dots.Dot.{Dot}
use Rattle.raster.specs.Frame.{drawable}
use Rattle.player.specs.Painting.{Painting}
use Rattle.player.specs.Run.{Done}

-- the painted dots contain d: it is drawable there, and a dot of the shape; which colour it has before and after is not asked
abbrev pub writes : Painting → Dot → Bool
writes p d = drawable p.frame d.x d.y && p.shape d.x d.y

-- no step, or the step of this number, which was this opcode
pub data Writer (E : Type 0) : Type 0 where
  nobody : Writer E
  step : ℕ → Done E → Writer E

-- an opcode by itself, the step of number k
abbrev pub own : {E : Type 0} → ℕ → Done E → Dot → Writer E
own k o d = cond (writes o.painting d) (step k o) nobody

-- a later writer, or else an earlier one
abbrev pub or_else : {E : Type 0} → Writer E → Writer E → Writer E
or_else nobody earlier = earlier
or_else (step k o) earlier = step k o

-- the last of the opcodes that writes d, where the first of them is the step of number k
unfoldable pub writer : {E : Type 0} → ℕ → List (Done E) → Dot → Writer E
writer k [] d = nobody
writer k (o ∷ os) d = or_else (writer (suc k) os d) (own k o d)

-- what is told of it, by the number of the step, the environment that it began with and the colour that it painted; of nobody, a
abbrev pub told : {E A : Type 0} → (ℕ → E → ℕ → A) → A → Writer E → A
told tell a nobody = a
told tell a (step k o) = tell k o.from o.painting.colour
