-- What the door lets in, every opcode leaves in range, carried out or refused.
use Prim.Native.Nat.{ℕ, zero, suc, ◌+◌, ◌-◌, ◌/◌, ◌%◌, ◌≤◌, ◌<◌}
use mathlib.Core.Path.{◌≡◌, refl}
use mathlib.Core.Bool.{Bool, true, false, cond}
use mathlib.Core.List.{List, [], ◌∷◌, ◌++◌}
use native.Mathlib.Omega.{arith}
use lib.ListN.{length, take, get_or, length-append, length-take}
use lib.Dec.{ltb, leb, eqb}
use lib.IntN.{ℤ, pos, negsuc, ◌+ℤ◌}
use borrow.Author.Tests.{not-false, ltb-true, ltb-false, leb-true, leb-false, le-leb, lt-leb, eqb-false}
use Rattle.std.specs.Prelude.{Some, None, Option}
use Rattle.numbers.specs.Number.{signed32}
use Rattle.numbers.specs.Place.{past, word_of, index_of}
use Rattle.raster.specs.Shapes.{shifted}
use Rattle.player.specs.Player.{fault, Outcome, refused}
use Rattle.player.proofs.Runs.{Leaves}
use Rattle.rules.specs.Types.{WordIndex, BitAddress, Bounds, Window, Dot, Operands, Repeat, Stopped}
use Rattle.rules.specs.Op as Op
use Rattle.rules.specs.Meaning.{Meaning, Unknown, Known, meaning}
use Rattle.rules.specs.Table.{form_of}
use Rattle.rules.specs.Operands.{at, operands, size_of, highest, first_above}
use Rattle.rules.specs.Environment.{Env, start, goto, onward, moved, based, clipped, windowed, stated, pushed, popped, top, repeat, over, opened, closed, innermost}
use Rattle.rules.specs.Opcodes.{Rule, rule, taken, far, absolute, relative, reach, point, countable, another, passes}
use Rattle.rules.specs.Step.{check, carried, ruled, step_at, step, afgis}
use Rattle.rules.specs.Door.{every, index_fits, repeat_fits, between, dot_fits, window_fits}
use Rattle.rules.proofs.Ranges.{both, one, other, neither, Fits}
use Rattle.rules.proofs.Places.{within}

near : (p : Dot) → far p ≡ false → dot_fits p ≡ true
near p h = not-false (dot_fits p) h

-- ---- one field changed, and in range
module _ {b : Bounds} (e : Env) (h : Fits b e) where
  at_position : (p : Dot) → far p ≡ false → Fits b (moved p e)
  at_position p f = (h.0, record { position = near p f; origin = h.1.origin; mode = h.1.mode; window = h.1.window }, h.2, h.3, h.4)

  at-origin : (p : Dot) → far p ≡ false → Fits b (based p e)
  at-origin p f = (h.0, record { position = h.1.position; origin = near p f; mode = h.1.mode; window = h.1.window }, h.2, h.3, h.4)

  in-mode : (m : ℕ) → m ≤ 2 → Fits b (clipped m e)
  in-mode m k = (h.0, record { position = h.1.position; origin = h.1.origin; mode = le-leb m 2 k; window = h.1.window }, h.2, h.3, h.4)

  in_window : (w : Window) → window_fits w ≡ true → Fits b (windowed w e)
  in_window w k = (h.0, record { position = h.1.position; origin = h.1.origin; mode = h.1.mode; window = k }, h.2, h.3, h.4)

  gone : (i : WordIndex) → i.0 ≤ 65536 → Fits b (goto i e)
  gone i k = (h.0, h.1, record { counter = le-leb i.0 65536 k; depth = h.2.depth; returns = h.2.returns; nesting = h.2.nesting; blocks = h.2.blocks }, h.3, h.4)

-- ---- lists of what is in range: one more, fewer, and one of them
module _ {A : Type 0} (t : A → Bool) where
  more : (xs : List A) (x : A) → every t xs ≡ true → t x ≡ true → every t (xs ++ (x ∷ [])) ≡ true
  more [] x h k = both (t x) true k refl
  more (y ∷ xs) x h k = both (t y) _ (one _ _ h) (more xs x (other (t y) _ h) k)

  fewer : (k : ℕ) (xs : List A) → every t xs ≡ true → every t (take k xs) ≡ true
  fewer zero xs h = refl
  fewer (suc k) [] h = refl
  fewer (suc k) (x ∷ xs) h = both (t x) _ (one _ _ h) (fewer k xs (other (t x) _ h))

  member : (xs : List A) (i : ℕ) (d : A) → every t xs ≡ true → i < length xs → t (get_or xs i d) ≡ true
  member [] i d h k = absurd (omega (arith, k))
  member (x ∷ xs) zero d h k = one (t x) _ h
  member (x ∷ xs) (suc i) d h k = member xs i d (other (t x) _ h) (omega (arith, k))

-- its last one, and how long it is with one more or one less
inside : {A : Type 0} (xs : List A) → eqb (length xs) 0 ≡ false → length xs - 1 < length xs
inside xs some = omega (arith, eqb-false (length xs) 0 some)

longer : {A : Type 0} (k : ℕ) (xs : List A) (x : A) → leb k (length xs) ≡ false → leb (length (xs ++ (x ∷ []))) k ≡ true
longer k xs x room = let l : length (xs ++ (x ∷ [])) ≤ k = omega (arith, length-append xs (x ∷ []), leb-false k (length xs) room) in le-leb _ _ l

shorter : {A : Type 0} (k : ℕ) (xs : List A) → leb (length xs) k ≡ true → leb (length (take (length xs - 1) xs)) k ≡ true
shorter k xs h = let l : length (take (length xs - 1) xs) ≤ k = omega (arith, length-take (length xs - 1) xs, leb-true (length xs) k h) in le-leb _ _ l

-- ---- the stack
module _ {b : Bounds} (e : Env) (h : Fits b e) where
  abbrev st : List WordIndex
  st = e.flow.stack

  grown : leb 16 (length st) ≡ false → Fits b (pushed e.flow.counter e)
  grown room = (
    h.0,
    h.1,
    record {
      counter = h.2.counter;
      depth = longer 16 st e.flow.counter room;
      returns = more index_fits st e.flow.counter h.2.returns h.2.counter;
      nesting = h.2.nesting;
      blocks = h.2.blocks;
    },
    h.3,
    h.4,
  )

  back : eqb (length st) 0 ≡ false → Fits b (goto (top e) (popped e))
  back some = (
    h.0,
    h.1,
    record {
      counter = member index_fits st (length st - 1) start h.2.returns (inside st some);
      depth = shorter 16 st h.2.depth;
      returns = fewer index_fits (length st - 1) st h.2.returns;
      nesting = h.2.nesting;
      blocks = h.2.blocks;
    },
    h.3,
    h.4,
  )

-- ---- repeats
begins : {b : Bounds} (e : Env) → Fits b e → (r : Repeat) → leb 8 (length e.flow.repeats) ≡ false → repeat_fits r ≡ true → Fits b (opened r e)
begins e h r room fit = (
  h.0,
  h.1,
  record {
    counter = h.2.counter;
    depth = h.2.depth;
    returns = h.2.returns;
    nesting = longer 8 e.flow.repeats r room;
    blocks = more repeat_fits e.flow.repeats r h.2.blocks fit;
  },
  h.3,
  h.4,
)

module _ {b : Bounds} (e : Env) (h : Fits b e) where
  abbrev rs : List Repeat
  rs = e.flow.repeats

  closes : Fits b (closed e)
  closes = (
    h.0,
    h.1,
    record {
      counter = h.2.counter;
      depth = h.2.depth;
      returns = h.2.returns;
      nesting = shorter 8 rs h.2.nesting;
      blocks = fewer repeat_fits (length rs - 1) rs h.2.blocks;
    },
    h.3,
    h.4,
  )

  -- a pass less on the innermost
  module _ (some : eqb (length rs) 0 ≡ false) where
    abbrev r : Repeat
    r = innermost e

    fit : repeat_fits r ≡ true
    fit = member repeat_fits rs (length rs - 1) over h.2.blocks (inside rs some)

    room : leb 8 (length (take (length rs - 1) rs)) ≡ false
    room =
        let l : length (take (length rs - 1) rs) < 8 = omega (arith, length-take (length rs - 1) rs, leb-true (length rs) 8 h.2.nesting, eqb-false (length rs) 0 some) in
        lt-leb 8 _ l

    pass : (t : Bool) → another r ≡ t → Fits b (cond t (goto r.start (opened (repeat r.start (r.left - 1)) (closed e))) (closed e))
    pass true p =
        let i : r.start.0 ≤ 65536 = leb-true r.start.0 65536 (one (index_fits r.start) _ fit) in
        let least : 1 ≤ r.left - 1 = omega (arith, ltb-true 1 r.left p) in
        let most : r.left - 1 ≤ 1000 = omega (arith, leb-true r.left 1000 (other (leb 1 r.left) _ (other (index_fits r.start) (countable r.left) fit))) in
        let next = repeat r.start (r.left - 1) in
        let fits-too = both (index_fits r.start) (countable (r.left - 1)) (le-leb r.start.0 65536 i) (both (leb 1 (r.left - 1)) (leb (r.left - 1) 1000) (le-leb 1 (r.left - 1) least) (le-leb (r.left - 1) 1000 most)) in
        gone (opened next (closed e)) (begins (closed e) closes next room fits-too) r.start i
    pass false p = closes

    goes_on : Fits b (passes r e)
    goes_on = pass (another r) refl

-- ---- targets, in a list of at most 65,536 words
abbrev Small : Option WordIndex → Type 0
Small (Some i) = i.0 ≤ 65536
Small None = Unit {0}

small-index : (z : ℤ) (n : ℕ) → n ≤ 65536 → Small (index_of z n)
unfolding index_of
small-index (pos k) n h = go (ltb k n) refl
  where
    go : (b : Bool) → ltb k n ≡ b → Small (cond b (Some (record { 0 = k })) None)
    go true p = let q = ltb-true k n p in omega (arith, q, h)
    go false p = tt
small-index (negsuc k) n h = tt

small_word : (a : BitAddress) (n : ℕ) → n ≤ 65536 → Small (word_of a n)
unfolding word_of
small_word a n h = go (eqb (a.0 % 16) 0)
  where
    go : (b : Bool) → Small (cond b (index_of (pos (a.0 / 16)) n) None)
    go true = small-index (pos (a.0 / 16)) n h
    go false = tt

reached : {b : Bounds} (t : Option WordIndex) (e : Env) → Small t → Fits b e → Fits b (reach t e)
reached (Some i) e s h = gone e h i s
reached None e s h = h

jumped : {b : Bounds} (taken : Bool) (t : Option WordIndex) (e : Env) → Small t → Fits b e → Fits b (cond taken (reach t e) e)
jumped true t e s h = reached t e s h
jumped false t e s h = h

-- ---- each op that breaks nothing
abbrev Clean : Rule → Type 0
Clean r =
    (r.breaks 24 ≡ false) × (r.breaks 25 ≡ false) × (r.breaks 26 ≡ false)
    × (r.breaks 27 ≡ false) × (r.breaks 28 ≡ false) × (r.breaks 29 ≡ false)

module _ (o : Operands) (n : ℕ) (few : n ≤ 65536) where
  rule-keeps : {b : Bounds} (op : Op.Op) (e : Env) → Fits b e → Clean (rule op o n e) → Fits b (rule op o n e).env
  rule-keeps Op.Noop e h f = h
  rule-keeps Op.End e h f = (h.0, h.1, h.2, refl, h.4)
  rule-keeps Op.Load e h f = h
  rule-keeps Op.Add e h f = h
  rule-keeps Op.And e h f = h
  rule-keeps Op.Or e h f = h
  rule-keeps Op.Multiply e h f = h
  rule-keeps Op.Divide e h f = h
  rule-keeps Op.Remainder e h f = h
  rule-keeps Op.Increment e h f = h
  rule-keeps Op.Decrement e h f = h
  rule-keeps Op.Compare e h f = h
  rule-keeps Op.Jump e h f = jumped (taken o.a e) (absolute o.b n) e (small_word (record { 0 = o.b }) n few) h
  rule-keeps Op.JumpBy e h f = jumped (taken o.a e) (relative o.b e n) e (small-index (pos e.flow.counter.0 +ℤ signed32 o.b) n few) h
  rule-keeps Op.Call e h f = reached (absolute o.a n) (pushed e.flow.counter e) (small_word (record { 0 = o.a }) n few) (grown e h f.4)
  rule-keeps Op.CallBy e h f =
      reached (relative o.a e n) (pushed e.flow.counter e) (small-index (pos e.flow.counter.0 +ℤ signed32 o.a) n few) (grown e h f.4)
  rule-keeps Op.Return e h f = back e h f.5
  rule-keeps Op.Repeat e h f = begins e h (repeat e.flow.counter o.a) f.4 (both _ _ h.2.counter (not-false _ f.0))
  rule-keeps Op.EndRepeat e h f = goes_on e h f.5
  rule-keeps Op.ClipMode e h f = in-mode e h o.a (ltb-false 2 o.a f.0)
  rule-keeps Op.ClipWindow e h f =
      let g = neither _ _ f.1 in
      let p = near (point o.a o.b) g.0 in
      let q = near (point o.c o.d) g.1 in
      in_window e h _ (both _ _ p q)
  rule-keeps Op.Colour e h f = h
  rule-keeps Op.Pattern e h f = h
  rule-keeps Op.MoveTo e h f = at_position e h (point o.a o.b) f.1
  rule-keeps Op.MoveBy e h f = at_position e h (shifted e.pen.position (point o.a o.b)) (neither (far (point o.a o.b)) _ f.1).1
  rule-keeps Op.Origin e h f = at-origin e h (point o.a o.b) f.1
  rule-keeps Op.Pixel e h f = h
  rule-keeps Op.PixelColour e h f = h
  rule-keeps Op.Line e h f = h
  rule-keeps Op.LineTo e h f = at_position e h (point o.b o.c) f.1
  rule-keeps Op.LineBy e h f = at_position e h (shifted e.pen.position (point o.b o.c)) (neither (far (point o.b o.c)) _ f.1).1
  rule-keeps Op.Disc e h f = h
  rule-keeps Op.Outline e h f = h
  rule-keeps Op.Clear e h f = h

-- ---- a step: a check that refuses stops the environment with a number 20 to 29 and a place 0 to 65,536
module _ (w : List ℕ) (few : length w ≤ 65536) (b : Bounds) (e : Env) (h : Fits b e) where
  stopped : (n : ℕ) (i : WordIndex) → between 20 29 n ≡ true → leb i.0 65536 ≡ true → Fits b (stated (Stopped (fault n i)) e)
  stopped n i k l = (h.0, h.1, h.2, both _ _ k l, h.4)

  checked : (n : ℕ) (i : WordIndex) (t : Bool) (x : Outcome Env) → between 20 29 n ≡ true → leb i.0 65536 ≡ true
      → (t ≡ false → Leaves (afgis w) (Fits b) e x) → Leaves (afgis w) (Fits b) e (check n i t x)
  checked n i true x k l f = stopped n i k l
  checked n i false x k l f = f refl

  abbrev pc : WordIndex
  pc = e.flow.counter

  -- refused where the opcode begins, or was due
  here : (n : ℕ) (t : Bool) (x : Outcome Env) → between 20 29 n ≡ true → (t ≡ false → Leaves (afgis w) (Fits b) e x)
      → Leaves (afgis w) (Fits b) e (check n pc t x)
  here n t x k f = checked n pc t x k h.2.counter f

  at-meaning : (m : Meaning) → Leaves (afgis w) (Fits b) e (step_at m w e)
  unfolding carried
  at-meaning Unknown = here 20 (leb (length w) pc.0) (refused (fault 21 pc)) refl (λ p. stopped 21 pc refl h.2.counter)
  at-meaning (Known op s) =
      let r = ruled (Known op s) w e in
      let next = pc.0 + size_of s in
      here 20 (leb (length w) pc.0) _ refl
      (λ p. here 22 (ltb (length w) next) _ refl
      (λ c.
      let room : next ≤ 65536 = omega (arith, few, ltb-false (length w) next c) in
      let inside : pc.0 + first_above s w pc.0 1 ≤ 65536 = omega (arith, room, within w pc.0 s 1) in
      checked 23 (past pc (first_above s w pc.0 1)) (ltb 63 (highest s w pc.0 1)) _ refl (le-leb _ _ inside)
      (λ v. here 24 (r.breaks 24) _ refl
      (λ p24. here 25 (r.breaks 25) _ refl
      (λ p25. here 26 (r.breaks 26) _ refl
      (λ p26. here 27 (r.breaks 27) _ refl
      (λ p27. here 28 (r.breaks 28) _ refl
      (λ p28. here 29 (r.breaks 29) _ refl
      (λ p29. rule-keeps (operands s w e.flow.counter.0 e.variables) (length w) few op (onward (size_of s) e) (gone e h _ room) (p24, p25, p26, p27, p28, p29))))))))))

  pub step_keeps : Leaves (afgis w) (Fits b) e (step w e)
  unfolding step
  step_keeps = at-meaning (meaning (form_of (at w e.flow.counter.0)))
