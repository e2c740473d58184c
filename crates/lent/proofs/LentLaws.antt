-- A register that is set changes one thing of the environment that all of it stands for.
use Rattle.std.proofs.Common.{◌≡◌, ℕ, List, refl}
use Rattle.numbers.specs.declared.place.WordIndex.{WordIndex}
use Rattle.raster.specs.declared.dots.Dot.{Dot}
use Rattle.raster.specs.declared.frame.Bounds.{Bounds}
use Rattle.raster.specs.declared.frame.Window.{Window}
use Rattle.player.specs.declared.Verdict.{Verdict}
use Rattle.player.specs.declared.State.TheVariants.{Ended}
use Rattle.player.specs.Player.{verdict}
use Rattle.rules.specs.declared.environment.Registers.{Registers}
use Rattle.rules.specs.Environment.{start, firsts, goto, stacked, compared, clipped, coloured, patterned, stated, moved, windowed, based, state_of}
use Rattle.lent.specs.declared.Stack.{Stack}
use Rattle.lent.specs.Lent.{look}

module _ (b : Bounds) (r : Registers) (vs : List ℕ) (st : Stack) where
  pub counter-set : (i : WordIndex) → look b (record r { counter = i }) vs st ≡ goto i (look b r vs st)
  counter-set i = refl

  pub compared-set : (x y : ℕ) → look b (record r { first = x; second = y }) vs st ≡ compared x y (look b r vs st)
  compared-set x y = refl

  pub depth-set : (n : ℕ) → look b (record r { depth = n }) vs st ≡ stacked (firsts start n st.returns) (look b r vs st)
  depth-set n = refl

  pub mode-set : (n : ℕ) → look b (record r { mode = n }) vs st ≡ clipped n (look b r vs st)
  mode-set n = refl

  pub colour-set : (n : ℕ) → look b (record r { colour = n }) vs st ≡ coloured n (look b r vs st)
  colour-set n = refl

  pub pattern-set : (n : ℕ) → look b (record r { pattern = n }) vs st ≡ patterned n (look b r vs st)
  pattern-set n = refl

  pub state-set : (v : Verdict) → look b (record r { state = v.number; place = v.place }) vs st ≡ stated (state_of v) (look b r vs st)
  state-set v = refl

  -- 1 with the place 0 is ended
  pub ended : {v : Verdict} → v ≡ verdict 1 → stated (state_of v) (look b r vs st) ≡ stated Ended (look b r vs st)
  unfolding state_of
  ended e = rw e refl

  pub position-set : (p : Dot) → look b (record r { position = p }) vs st ≡ moved p (look b r vs st)
  position-set p = refl

  pub window-set : (w : Window) → look b (record r { window = w }) vs st ≡ windowed w (look b r vs st)
  window-set w = refl

  pub origin-set : (p : Dot) → look b (record r { origin = p }) vs st ≡ based p (look b r vs st)
  origin-set p = refl
