-- Two small players that are no AFGIS, on which demand 3 can be seen: the brush fills its pane, the pen sets dots.
use Rattle.std.specs.Prelude.{ℕ, zero, suc, ◌*◌, ◌-◌, cond, List, pos, eqb, leb, ltb, length, get_or}
use Rattle.raster.specs.declared.frame.Frame.{Frame}
use Rattle.raster.specs.Shapes.{top_left, dot, all}
use Rattle.player.specs.declared.State.{State}
use Rattle.player.specs.declared.State.TheVariants.{Running, Ended, Stopped}
use Rattle.player.specs.Painting.{Painting, nothing}
use Rattle.player.specs.Player.{fault, Outcome, done, refused, Player}
use Rattle.player.specs.Hosted.{Request, Hosted}

-- the environment of both; `at` is the index of the next word
pub record Env : Type 0 where
  pub frame : Frame
  pub at : ℕ
  pub state : State

-- a fresh one on w by h, whose pane is the columns l to r
abbrev pub fresh : ℕ → ℕ → ℕ → ℕ → Env
fresh w h l r =
    record {
      frame = record {
        bounds = record { width = w; height = h; pane = record { left = l; top = 0; right = r; bottom = h - 1 } };
        origin = top_left;
        mode = 0;
        window = record { x0 = pos 0; y0 = pos 0; x1 = pos (w - 1); y1 = pos (h - 1) };
      };
      at = 0;
      state = Running;
    }

-- two panes of one screen
abbrev pub west : Env
west = fresh 5 3 0 1

abbrev pub east : Env
east = fresh 5 3 2 4

-- the environment past a word, with this frame and state
abbrev pub past : Frame → State → Env → Env
past f q e = record { frame = f; at = suc e.at; state = q }

abbrev pub fill : Frame → ℕ → Painting
fill f c = record { frame = f; shape = all; colour = c }

-- 0 ends, 1 sets the clip mode, any other word fills the pane with that colour
abbrev pub brush : ℕ → Env → Outcome Env
brush zero e = done (past e.frame Ended e) (nothing e.frame)
brush (suc zero) e = done (past (record { bounds = e.frame.bounds; origin = e.frame.origin; mode = 1; window = e.frame.window }) Running e) (nothing e.frame)
brush (suc (suc n)) e = done (past e.frame Running e) (fill e.frame (suc (suc n)))

-- the word x sets the dot (x, x) in colour 9
abbrev pub pen : ℕ → Env → Outcome Env
pen x e = done (past e.frame Running e) (record { frame = e.frame; shape = dot (record { x = pos x; y = pos x }); colour = 9 })

-- the player whose words do this: 20 past the list's end, where a word was due
abbrev pub toy : (ℕ → Env → Outcome Env) → List ℕ → Player Env
toy word w =
    record {
      state = λ e. e.state;
      stop = λ v e. record { frame = e.frame; at = e.at; state = Stopped v };
      step = λ e. cond (leb (length w) e.at) (refused (fault 20 (record { 0 = e.at }))) (word (get_or w e.at 0) e);
    }

-- the door of all: 11 and 14
abbrev pub door : Request (List ℕ) → Env → ℕ → ℕ
door q e n = cond (eqb n (e.frame.bounds.height * e.frame.bounds.width)) (cond (ltb 1000000 q.budget) 14 0) 11

abbrev pub toys : (ℕ → Env → Outcome Env) → Hosted
toys word = record { Env = Env; Words = List ℕ; bounds = λ e. e.frame.bounds; door = door; player = toy word }
