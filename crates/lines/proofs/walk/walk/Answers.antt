-- `lines::walk::walk` meets its contract: its loop keeps what a walk keeps.
use Rattle.std.proofs.Common.{◌≡◌, ℕ, suc, ◌+◌, ◌-◌, ◌<◌, ◌≤◌, Bool, cond, List, set, sym, ap, ◌∙◌, subst, le_antisymm, arith}
use Rattle.lines.specs.declared.course.Course.{Course}
use Rattle.lines.specs.Dashes.{lit}
use Rattle.lines.specs.Courses.{number_b, lit_b, Fair}
use Rattle.lines.specs.Walks.{AllSeen, Reached}
use Rattle.lines.proofs.Walks.{stretched}
use Rattle.lines.proofs.Going.{may-begin, begins, on-screen, ends, may-go, one_on}
use Rattle.lines.proofs.walk.walk.Goals as goal

-- ---- the last of the dots is before their end
last_of : {a b : ℕ} → a < b → suc (b - 1) ≡ b
last_of h = omega arith

to_last : {l : Course} {a b q e : ℕ} → Fair l → (a < b) × (b ≤ l.n + 1) → Reached l a q e → Fair l × Reached l a q e × (a ≤ b - 1) × (b - 1 ≤ l.n)
to_last f h r = (f, r, omega (arith, h), omega (arith, h))

seen : (w : ℕ) (l : Course) {a b : ℕ} (s : List ℕ) → a < b → AllSeen w l a b s → AllSeen w l a (suc (b - 1)) s
seen w l s h v k g i = v k g (subst (λ (n : ℕ). k < n) (last_of h) i)

-- ---- before the loop
pub spot-requires : goal.spot-requires
spot-requires g c =
    let a = c.args in
    let h = c.requires.some_dot in
    let b = may-begin a.w a.l.course a.s.from (a.s.past - 1) a.screen.now (seen a.w a.l.course a.screen.now h.0 c.requires.all_seen) _ _
    (to_last a.l.fair h c.slope-slope.ensures) in
    (b.1, b.2)

pub loop-k-init : goal.loop-k-init
loop-k-init g c =
    let a = c.args in
    let h = c.requires.some_dot in
    begins a.w a.l.course a.s.from (a.s.past - 1) a.screen.now (seen a.w a.l.course a.screen.now h.0 c.requires.all_seen) _ _
    (to_last a.l.fair h c.slope-slope.ensures) (g.P.Pattern.bits a.pattern) a.c c.spot.ensures c.byte_of-at.ensures

-- ---- in a turn
-- dot k is painted by its number, and stored so
stored : (o : ℕ) (l : Course) (k at c : ℕ) (s : List ℕ) {t : List ℕ} {b : Bool} {n : ℕ} → t ≡ cond b (set s at c) s → b ≡ lit o n → n ≡ number_b l k
    → t ≡ cond (lit_b o l k) (set s at c) s
stored o l k at c s p q r = p ∙ ap (λ (b : Bool). cond b (set s at c) s) (q ∙ ap (λ (n : ℕ). lit o n) r)

pub put-requires : goal.put-requires
put-requires g c = let a = c.args in on-screen (seen a.w a.l.course a.screen.now c.requires.some_dot.0 c.requires.all_seen) c.loop-k.invariant

pub next-place-requires : goal.next-place-requires
next-place-requires g c =
    let a = c.args in
    let h = c.requires.some_dot in
    let t = to_last a.l.fair h c.slope-slope.ensures in
    may-go (seen a.w a.l.course a.screen.now h.0 c.requires.all_seen) c.loop-k.invariant t.0 t.3 c.loop-k-test.true c.pace_of-p.result c.pace_of-p.ensures

pub loop-k-preserved : goal.loop-k-preserved
loop-k-preserved g c =
    let a = c.args in
    let h = c.requires.some_dot in
    let t = to_last a.l.fair h c.slope-slope.ensures in
    let k = c.loop-k in
    one_on (seen a.w a.l.course a.screen.now h.0 c.requires.all_seen) k.invariant t.0 t.3 c.loop-k-test.true c.pace_of-p.result c.pace_of-p.ensures
    (stored (g.P.Pattern.bits a.pattern) a.l.course k.k k.place.at a.c k.screen c.put.ensures c.paints.ensures c.number.ensures) c.put.auto.screen c.next-place.ensures

-- ---- after the loop, the last dot alike
pub put-requires-2 : goal.put-requires-2
put-requires-2 g c = let a = c.args in on-screen (seen a.w a.l.course a.screen.now c.requires.some_dot.0 c.requires.all_seen) c.loop-k.invariant

pub returns : goal.returns
returns g c =
    let a = c.args in
    let h = c.requires.some_dot in
    let k = c.loop-k in
    let o = g.P.Pattern.bits a.pattern in
    stored o a.l.course k.k k.place.at a.c k.screen c.put-2.ensures c.paints-2.ensures
    (c.number-2.ensures ∙ ap (number_b a.l.course) (sym (le_antisymm k.invariant.to c.loop-k-test.false)))
    ∙ ends (seen a.w a.l.course a.screen.now h.0 c.requires.all_seen) k.invariant c.loop-k-test.false
    ∙ ap (λ (b : ℕ). stretched a.w o a.l.course a.s.from b a.c a.screen.now) (last_of h.0)
