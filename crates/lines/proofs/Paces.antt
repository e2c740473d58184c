-- From one dot of a course to the next: its byte, and what is left there.
use Rattle.std.proofs.Common.{◌≡◌, ℕ, ◌+◌, ◌-◌, ◌*◌, ◌%◌, ◌^◌, ◌<◌, ◌≤◌, Bool, true, false, cond, not, T, ltb, sym, refl, ap, ◌∙◌, subst, add_assoc, add-mul, one-mul, mul-one, mul-add, arith, ltb-false, ltb-true}
use mathlib.Core.Path.{subst⁻¹}
use Rattle.raster.specs.Biased.{bias, aside}
use Rattle.raster.specs.Rects.{byte_b, Placed}
use Rattle.lines.specs.declared.course.Course.{Course}
use Rattle.lines.specs.declared.walk.Pace.{Pace}
use Rattle.lines.specs.Courses.{offset_of, line_spot, Fair}
use Rattle.lines.specs.Walks.{stride, next_place, Paced, Reached}
use Rattle.lines.proofs.Sides.{offset-down}
use Rattle.lines.proofs.Walks.{go}

-- ---- the byte of the dot A on the long axis and b on the other
abbrev byte_at : Bool → ℕ → ℕ → ℕ → ℕ
byte_at t w A b = byte_b w (record { x = cond t A b; y = cond t b A })

rows : (a b w : ℕ) → a ≡ b + 1 → a * w ≡ b * w + w
rows a b w e = ap (λ (u : ℕ). u * w) e ∙ add-mul b 1 w ∙ ap (λ (u : ℕ). b * w + u) (one-mul w)

module _ (w A : ℕ) where
  byte-on : bias ≤ A → (t : Bool) (b : ℕ) → byte_at t w (A + 1) b ≡ byte_at t w A b + stride t w
  byte-on h true b = omega arith
  byte-on h false b = omega (arith, rows (A + 1 - bias) (A - bias) w (omega arith))

  byte-aside : (t up : Bool) (b q : ℕ) → (up ≡ false → q + 1 ≤ b) → bias ≤ aside up b q → bias ≤ aside up b (q + 1)
      → byte_at t w A (aside up b (q + 1)) ≡ aside up (byte_at t w A (aside up b q)) (stride (not t) w)
  byte-aside true true b q d x y = omega (arith, rows (b + (q + 1) - bias) (b + q - bias) w (omega arith))
  byte-aside true false b q d x y = let h = d refl in omega (arith, rows (b - q - bias) (b - (q + 1) - bias) w (omega arith))
  byte-aside false true b q d x y = omega arith
  byte-aside false false b q d x y = let h = d refl in omega arith

  -- there is a row above, or a column before
  above : (t : Bool) (b : ℕ) → bias + 1 ≤ b → stride (not t) w ≤ byte_at t w A b
  above true b h = omega (arith, rows (b - bias) (b - (bias + 1)) w (omega arith))
  above false b h = omega arith

pub stride-low : (t : Bool) (w : ℕ) → w ≤ 2048 → stride t w ≤ 2048
stride-low true w h = omega arith
stride-low false w h = h

pub on-low : (w : ℕ) (l : Course) (p : Pace) → Paced w l p → w ≤ 2048 → p.on ≤ 2048
on-low w l p d h = subst⁻¹ (λ (a : ℕ). a ≤ 2048) d.straight (stride-low l.flat w h)

-- ---- a sum modulo 2^64 that leads back
back : (at on beside both : ℕ) → (both + beside) % 2 ^ 64 ≡ on → beside ≤ at + on → at + on < 2 ^ 64 → beside < 2 ^ 64 → (at + both) % 2 ^ 64 ≡ at + on - beside
back at on beside both e h g b = omega arith

-- ---- both, of a course
module _ (w : ℕ) (l : Course) (p : Pace) (f : Fair l) (d : Paced w l p) (k e : ℕ) (h : k < l.n) (r : Reached l k (offset_of l k) e)
    (here : Placed w (line_spot l k)) (there : Placed w (line_spot l (k + 1))) where
  low : (t : Bool) (u v : ℕ) → bias ≤ cond t u v → bias ≤ cond t v u → (bias ≤ u) × (bias ≤ v)
  low true u v x y = (x, y)
  low false u v x y = (y, x)

  from : (bias ≤ l.along + k) × (bias ≤ aside l.up l.across (offset_of l k))
  from = low l.flat (l.along + k) (aside l.up l.across (offset_of l k)) here.x_from here.y_from

  to : (bias ≤ l.along + (k + 1)) × (bias ≤ aside l.up l.across (offset_of l (k + 1)))
  to = low l.flat (l.along + (k + 1)) (aside l.up l.across (offset_of l (k + 1))) there.x_from there.y_from

  abbrev at : ℕ
  at = byte_b w (line_spot l k)

  abbrev beside : ℕ
  beside = stride (not l.flat) w

  -- one dot on, not aside
  on : at + p.on ≡ byte_at l.flat w (l.along + (k + 1)) (aside l.up l.across (offset_of l k))
  on =
      ap (λ (a : ℕ). at + a) d.straight
      ∙ sym (byte-on w (l.along + k) from.0 l.flat (aside l.up l.across (offset_of l k)))
      ∙ ap (λ (a : ℕ). byte_at l.flat w a (aside l.up l.across (offset_of l k))) (add_assoc l.along k 1)

  stays : e < 2 * (l.n - l.m) → Reached l (k + 1) (offset_of l k) (e + 2 * l.m)
  stays g = go l k (offset_of l k) e (offset_of l k) (e + 2 * l.m) r (sym (add_assoc (2 * l.n * offset_of l k) e (2 * l.m))) (omega (arith, f.short))

  turns : 2 * (l.n - l.m) ≤ e → Reached l (k + 1) (offset_of l k + 1) (e - 2 * (l.n - l.m))
  turns g =
      go l k (offset_of l k) e (offset_of l k + 1) (e - 2 * (l.n - l.m)) r
      (omega (arith, f.short, mul-add (2 * l.n) (offset_of l k) 1, mul-one (2 * l.n)))
      (omega (arith, r.left))

  deep : offset_of l k + 1 ≡ offset_of l (k + 1) → l.up ≡ false → offset_of l k + 1 ≤ l.across
  deep q u = subst (λ (a : ℕ). a ≤ l.across) (sym q) (offset-down l f (k + 1) (omega arith) u)

  -- one dot on and one aside
  askew : offset_of l k + 1 ≡ offset_of l (k + 1) → aside l.up (at + p.on) beside ≡ byte_b w (line_spot l (k + 1))
  askew q =
      ap (λ (a : ℕ). aside l.up a beside) on
      ∙ sym (byte-aside w (l.along + (k + 1)) l.flat l.up l.across (offset_of l k) (deep q) from.1
      (subst (λ (a : ℕ). bias ≤ aside l.up l.across a) (sym q) to.1))
      ∙ ap (λ (a : ℕ). byte_at l.flat w (l.along + (k + 1)) (aside l.up l.across a)) q

  may-fall : offset_of l k + 1 ≡ offset_of l (k + 1) → l.up ≡ false → beside ≤ at + p.on
  may-fall q u =
      subst (λ (a : ℕ). beside ≤ a) (sym on) (above w (l.along + (k + 1)) l.flat (aside l.up l.across (offset_of l k))
      (fall l.up u (subst (λ (a : ℕ). bias ≤ aside l.up l.across a) (sym q) to.1) (deep q u)))
    where
      fall : (up : Bool) → up ≡ false → bias ≤ aside up l.across (offset_of l k + 1) → offset_of l k + 1 ≤ l.across → bias + 1 ≤ aside up l.across (offset_of l k)
      fall true u x y = absurd (subst T u tt)
      fall false u x y = omega arith

  small : (at + p.on < 4294967296) × (beside ≤ 2048)
  small = (omega (arith, here, on-low w l p d here.narrow), stride-low (not l.flat) w here.narrow)

  lands : offset_of l k + 1 ≡ offset_of l (k + 1) → (up : Bool) → l.up ≡ up → (at + p.aside) % 2 ^ 64 ≡ aside up (at + p.on) beside
  lands q true u = ap (λ (a : ℕ). (at + a) % 2 ^ 64) (d.rises u) ∙ omega (arith, small)
  lands q false u = back at p.on beside p.aside (d.falls u) (may-fall q u) (omega (arith, small)) (omega (arith, small))

  by : (t : Bool) → ltb e (2 * (l.n - l.m)) ≡ t
      → Reached l (k + 1) (offset_of l (k + 1)) (cond t (e + 2 * l.m) (e - 2 * (l.n - l.m)))
      × (cond t (at + p.on) ((at + p.aside) % 2 ^ 64) ≡ byte_b w (line_spot l (k + 1)))
  by true u =
      let s = stays (ltb-true e (2 * (l.n - l.m)) u) in (
        subst (λ (a : ℕ). Reached l (k + 1) a (e + 2 * l.m)) s.is_offset s,
        on ∙ ap (λ (a : ℕ). byte_at l.flat w (l.along + (k + 1)) (aside l.up l.across a)) s.is_offset,
      )
  by false u =
      let s = turns (ltb-false e (2 * (l.n - l.m)) u) in (
        subst (λ (a : ℕ). Reached l (k + 1) a (e - 2 * (l.n - l.m))) s.is_offset s,
        lands s.is_offset l.up refl ∙ askew s.is_offset,
      )

  pub next-is : Reached l (k + 1) (offset_of l (k + 1)) (next_place l p at e).e × ((next_place l p at e).at ≡ byte_b w (line_spot l (k + 1)))
  next-is = by (ltb e (2 * (l.n - l.m))) refl
