-- `lines::span::dots_within` meets its contract: both axes' steps.
use Rattle.std.proofs.Common.{◌≡◌, ℕ, min, max, Bool, true, sym, ap, ◌∙◌, subst, ap₂, subst₂}
use Rattle.lines.specs.declared.span.Span.{Span}
use Rattle.lines.specs.Spans.{span_of, covers_b, along_span, across_span, First, DotsWithin}
use Rattle.lines.proofs.Spans.{dots-within, all-within}
use Rattle.lines.proofs.span.dots_within.Goals as goal

-- a span that the code finds
found : (up : Bool) (a : ℕ) {s : Span} {u v lo hi : ℕ} → s ≡ span_of up a u v → u ≡ lo → v ≡ hi → s ≡ span_of up a lo hi
found up a e p q = e ∙ ap₂ (λ (u v : ℕ). span_of up a u v) p q

pub returns-then-covers-2 : goal.returns-then-covers-2
returns-then-covers-2 c =
    let l = c.args.whole.course in
    let r = c.args.r in
    let along : c.span_of-a.result ≡ along_span r l = found true l.along c.span_of-a.ensures c.along_of.ensures c.along_of-2.ensures in
    let across : c.span_of-b.result ≡ across_span r l = found l.up l.across c.span_of-b.ensures c.across_of.ensures c.across_of-2.ensures in
    all-within r l c.args.whole.fair
    (ap (λ (s : Span). covers_b s l.n) (sym along) ∙ sym c.covers.ensures ∙ c.if-covers.true)
    (ap (λ (s : Span). covers_b s l.m) (sym across) ∙ sym c.covers-then-covers.ensures ∙ c.if-covers-2.true)

pub returns : goal.returns
returns c =
    let l = c.args.whole.course in
    let r = c.args.r in
    let u = c.first.result in
    let v = c.first-2.result in
    let along : c.span_of-a.result ≡ along_span r l = found true l.along c.span_of-a.ensures c.along_of.ensures c.along_of-2.ensures in
    let across : c.span_of-b.result ≡ across_span r l = found l.up l.across c.span_of-b.ensures c.across_of.ensures c.across_of-2.ensures in
    subst₂ (λ (f p : ℕ). DotsWithin r l f p)
    (sym (c.max.ensures ∙ ap (λ (t : Span). max t.from u) along))
    (sym (c.min.ensures ∙ ap (λ (t : Span). min t.past v) along))
    (dots-within r l c.args.whole.fair u v
    (subst (λ (t : Span). First l t.from u) across c.first.ensures)
    (subst (λ (t : Span). First l t.past v) across c.first-2.ensures))
