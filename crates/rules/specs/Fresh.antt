-- Document 01, 'What a call is given': the fresh environment, and what comes back for a bad size or pane.
use Rattle.std.specs.Prelude.{ℕ, ◌-◌, ◌≡◌, cond, [], replicate, pos}
use Rattle.raster.specs.Shapes.{top_left}
use Rattle.lines.specs.Dashes.{solid}
use Rattle.rules.specs.Types.{Bounds, Window, Running}
use Rattle.rules.specs.declared.answer.Made as Came
use Rattle.rules.specs.Environment.{Env, env, start, held}
use Rattle.rules.specs.Door.{size_fits, pane_fits}

-- from the top left to (x, y)
abbrev pub corner : ℕ → ℕ → Window
corner x y = record { x0 = pos 0; y0 = pos 0; x1 = pos x; y1 = pos y }

-- variables 0, position (0, 0), origin (0, 0), compared values 0 and 0, counter 0, stack empty, no repeat open, running
abbrev pub blank : Bounds → ℕ → ℕ → Window → Env
blank b colour pattern w =
    env b (replicate 64 0)
    (record { position = top_left; origin = top_left; colour = colour; pattern = pattern; mode = 0; window = w })
    (record { counter = start; stack = []; repeats = []; first = 0; second = 0 })
    Running

-- colour 15, a line pattern of all ones, clip mode 0, clip window the whole screen
abbrev pub fresh : Bounds → Env
fresh b = blank b 15 solid (corner (b.width - 1) (b.height - 1))

abbrev pub nowhere : Bounds
nowhere = record { width = 0; height = 0; pane = record { left = 0; top = 0; right = 0; bottom = 0 } }

abbrev pub zeros : Env
zeros = blank nowhere 0 0 (corner 0 0)

pub record Made : Type 0 where
  pub number : ℕ
  pub env : Env

abbrev pub making : ℕ → Env → Made
making n e = record { number = n; env = e }

-- a bad size gives 10, a bad pane 12, size first
unfoldable pub made : Bounds → Made
made b = cond (size_fits b) (cond (pane_fits b) (making 0 (fresh b)) (making 12 zeros)) (making 10 zeros)

-- ---- what the making promises

abbrev pub Promise : Bounds → Came.Made → Type 0
Promise b m = making m.number (held m.env) ≡ made b
