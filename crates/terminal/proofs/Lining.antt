-- A row is put character by character.
use Prim.Native.Nat.{ℕ, ◌+◌, ◌*◌, ◌<◌, ◌≤◌}
use mathlib.Core.Path.{◌≡◌, refl, sym, ap, ap₂, subst, ◌∙◌}
use mathlib.Core.List.{List, ◌++◌}
use native.Mathlib.Numerals.{add-one}
use native.Mathlib.Omega.{arith}
use lib.ListN.{length, length-append}
use Rattle.text.specs.Bytes.{bytes}
use Rattle.picture.specs.declared.palette.Colour.{Colour}
use Rattle.terminal.specs.declared.cell.Depth.{Depth}
use Rattle.terminal.specs.declared.fit.View.{View}
use Rattle.text.specs.Puts.{Puts}
use Rattle.terminal.specs.Cells.{paint, upper_half_block, cell, line_end}
use Rattle.terminal.specs.Lines.{dot_of, cells, line}
use Rattle.text.proofs.Joining.{and_then}
use Rattle.terminal.proofs.Painting.{Bytes, thirteen-bytes}

few_bytes : (d : Depth) (upper lower : Colour) → Bytes upper → Bytes lower → length (cell d upper lower) ≤ 39
unfolding cell
few_bytes d upper lower b c =
    let end : List ℕ = bytes "m" ++ upper_half_block in
    omega (
      arith,
      thirteen-bytes d upper b,
      thirteen-bytes d lower c,
      length-append (paint d upper) (bytes ";48;" ++ (paint d lower ++ end)),
      length-append (paint d lower) end,
    )

pub record Lining (d : Depth) (screen : List ℕ) (v : View) (j : ℕ) (room₀ room : List ℕ) (at i : ℕ) : Type 0 where
  pub inside : i ≤ v.columns
  pub few : at ≤ 39 * i
  pub put : Puts (cells d screen v j i) room₀ 0 room at

module _ {d : Depth} {screen : List ℕ} {v : View} {j : ℕ} {room₀ : List ℕ} where
  pub no_cell : Lining d screen v j room₀ room₀ 0 0
  unfolding cells
  no_cell = record { inside = omega arith; few = omega arith; put = record { stored = refl; place = refl } }

  module _ {room : List ℕ} {at i : ℕ} (c : Lining d screen v j room₀ room at i) where
    pub one_cell : i < v.columns → {upper lower : Colour} → upper ≡ dot_of screen v i (2 * j) → lower ≡ dot_of screen v i (2 * j + 1)
        → Bytes upper → Bytes lower → {room' : List ℕ} {to : ℕ} → Puts (cell d upper lower) room at room' to → Lining d screen v j room₀ room' to (i + 1)
    unfolding cells
    one_cell h {upper} {lower} e f a b {room'} {to} p =
        let all : cells d screen v j i ++ cell d upper lower ≡ cells d screen v j (i + 1) =
        ap₂ (λ (x y : Colour). cells d screen v j i ++ cell d x y) e f ∙ ap (cells d screen v j) (sym (add-one i)) in
        record {
          inside = omega arith;
          few = omega (arith, c.few, p.place, few_bytes d upper lower a b);
          put = subst (λ (s : List ℕ). Puts s room₀ 0 room' to) all (and_then c.put p);
        }

    pub all-cells : v.columns ≤ i → {room' : List ℕ} {to : ℕ} → Puts line_end room at room' to → Puts (line d screen v j) room₀ 0 room' to
    all-cells h {room'} {to} p =
        let same : i ≡ v.columns = omega (arith, c.inside) in
        subst (λ (n : ℕ). Puts (cells d screen v j n ++ line_end) room₀ 0 room' to) same (and_then c.put p)
