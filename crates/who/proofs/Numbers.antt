-- What is answered, by the door's number and by the dot.
use Prim.Native.Nat.{ℕ, zero, suc}
use mathlib.Core.Path.{◌≡◌, refl, sym, ap, ◌∙◌}
use mathlib.Core.Bool.{Bool, true, false}
use mathlib.Core.List.{List}
use native.Mathlib.Omega.{arith}
use Rattle.raster.specs.declared.dots.Dot.{Dot}
use Rattle.raster.specs.Frame.{on_screen}
use Rattle.player.specs.Hosted.{Request}
use Rattle.player.specs.Door.{unless}
use Rattle.rules.specs.Environment.{Env}
use Rattle.who.specs.declared.Writer.{Writer}
use Rattle.who.specs.Who.{door, or_then, saying, found, answer, who}

module _ (w : List ℕ) (e : Env) (budget : ℕ) (d : Dot) where
  abbrev q : Request (List ℕ)
  q = record { list = w; budget = budget }

  -- by the door's number
  abbrev by-door : ℕ → Writer
  by-door n = answer (or_then n (unless 25 (on_screen e.bounds d.x d.y) 0)) (found w e budget d)

  turned-away : (n : ℕ) → (n ≡ 0 → ⊥) → saying n ≡ by-door n
  turned-away zero h = absurd (h refl)
  turned-away (suc n) h = refl

  pub refused : (n : ℕ) → n ≡ door q e → (n ≡ 0 → ⊥) → saying n ≡ who w e budget d
  unfolding who
  refused n is h = turned-away n h ∙ ap by-door is

  -- it lets in
  module _ (entered : door q e ≡ 0) where
    pub outside : on_screen e.bounds d.x d.y ≡ false → saying 25 ≡ who w e budget d
    unfolding who
    outside h = sym (ap by-door entered ∙ rw h)

    pub inside : on_screen e.bounds d.x d.y ≡ true → found w e budget d ≡ who w e budget d
    unfolding who
    inside h = sym (ap by-door entered ∙ rw h)

  -- the number 0 says that it let in, that the dot is on the screen, and that the last writer is told
  pub record Told : Type 0 where
    pub entered : door q e ≡ 0
    pub on : on_screen e.bounds d.x d.y ≡ true
    pub is : who w e budget d ≡ found w e budget d

  pub all_told : (who w e budget d).number ≡ 0 → Told
  unfolding who
  all_told h = by (door q e) (on_screen e.bounds d.x d.y) refl refl h
    where
      by : (n : ℕ) (t : Bool) → door q e ≡ n → on_screen e.bounds d.x d.y ≡ t → (answer (or_then n (unless 25 t 0)) (found w e budget d)).number ≡ 0 → Told
      by zero true p q z = record { entered = p; on = q; is = ap by-door p ∙ rw q }
      by zero false p q z = absurd (omega (arith, z))
      by (suc n) t p q z = absurd (omega (arith, z))
