-- A call that only draws obeys the laws.
use mathlib.Core.Path.{◌≡◌, refl, sym, ap, ◌∙◌}
use mathlib.Core.Bool.{cond}
use mathlib.Core.List.{List, [], ◌∷◌}
use Prim.Native.Nat.{ℕ, ◌<◌}
use lib.Dec.{T}
use lib.ListN.{length, get_or}
use Rattle.raster.specs.declared.frame.Bounds.{Bounds}
use Rattle.raster.specs.declared.frame.Frame.{Frame}
use Rattle.raster.specs.Shapes.{Shape}
use Rattle.raster.specs.Frame.{on_screen, in_pane, drawable}
use Rattle.raster.specs.Paint.{column_of, row_of, hit}
use Rattle.raster.proofs.Tests.{left, both}
use Rattle.raster.proofs.Paintings.{length-paint, byte-paint, kept, drawable-pixel}
use Rattle.player.specs.Painting.{Painting, painted, drawn}
use Rattle.player.specs.Pane.{of_pane, Alike}
use Rattle.player.specs.Reply.{Reply}
use Rattle.player.specs.Mixing.{Callable}
use Rattle.player.specs.Obeys.{Obeys}
use Rattle.player.specs.Drawing.{Inside, Draws}

-- ---- one painting
pub length-painted : (p : Painting) (s : List ℕ) → length (painted p s) ≡ length s
length-painted p s = length-paint p.frame p.shape p.colour s

-- a byte that it hits is in its pane
hit-of-pane : (f : Frame) (S : Shape) (k : ℕ) → T (hit f S k) → T (of_pane f.bounds k)
hit-of-pane f S k t =
    let x = column_of f.bounds k in
    let y = row_of f.bounds k in
    let d = drawable-pixel f x y (left (drawable f x y) (S x y) t) in
    both (on_screen f.bounds x y) (in_pane f.bounds x y) d.0 d.1

painted-stays : (p : Painting) (s : List ℕ) (k : ℕ) → k < length s → (T (of_pane p.frame.bounds k) → ⊥) → get_or (painted p s) k 0 ≡ get_or s k 0
painted-stays p s k l n = kept p.frame p.shape p.colour s k l (λ t. n (hit-of-pane p.frame p.shape k t))

alike-painted : (b : Bounds) (p : Painting) (s t : List ℕ) → Alike b s t → Alike b (painted p s) (painted p t)
alike-painted b p s t h =
    record {
      long = length-painted p s ∙ h.long ∙ sym (length-painted p t);
      bytes = λ k l u.
          let l₁ : k < length s = rw (length-painted p s) at l in
          let l₂ : k < length t = rw h.long at l₁ in
          byte-paint p.frame p.shape p.colour s k l₁
          ∙ ap (λ (v : ℕ). cond (hit p.frame p.shape k) p.colour v) (h.bytes k l₁ u)
          ∙ sym (byte-paint p.frame p.shape p.colour t k l₂);
    }

-- ---- several
length-drawn : (ps : List Painting) (s : List ℕ) → length (drawn ps s) ≡ length s
length-drawn [] s = refl
length-drawn (p ∷ ps) s = length-drawn ps (painted p s) ∙ length-painted p s

drawn-stays : (b : Bounds) (ps : List Painting) → Inside b ps → (s : List ℕ) (k : ℕ) → k < length s → (T (of_pane b k) → ⊥) → get_or (drawn ps s) k 0 ≡ get_or s k 0
drawn-stays b [] h s k l n = refl
drawn-stays b (p ∷ ps) h s k l n =
    drawn-stays b ps h.1 (painted p s) k (rw (length-painted p s) l) n ∙ painted-stays p s k l (rw h.0 n)

alike-drawn : (b : Bounds) (ps : List Painting) (s t : List ℕ) → Alike b s t → Alike b (drawn ps s) (drawn ps t)
alike-drawn b [] s t h = h
alike-drawn b (p ∷ ps) s t h = alike-drawn b ps (painted p s) (painted p t) (alike-painted b p s t h)

-- ---- a call
module _ (A : Callable) (D : Draws A) where
  abbrev Drawn : Type 0
  Drawn = Reply A.Env A.Told

  pub obeys : Obeys A
  obeys =
      record {
        long = λ q e s. ap (λ (r : Drawn). length r.screen) (D.is q e s) ∙ length-drawn (D.drawing q e (length s)).paintings s;
        outside = λ q e s k l n.
            ap (λ (r : Drawn). get_or r.screen k 0) (D.is q e s)
            ∙ drawn-stays (A.bounds e) (D.drawing q e (length s)).paintings (D.inside q e (length s)) s k l n;
        blind = λ q e s t h.
            rw (D.is q e s, D.is q e t, ← h.long)
            (record { got = refl; pane = alike-drawn (A.bounds e) (D.drawing q e (length s)).paintings s t h });
        keeps = λ q e s. ap (λ (r : Drawn). A.bounds r.got.env) (D.is q e s) ∙ D.keeps q e (length s);
      }
