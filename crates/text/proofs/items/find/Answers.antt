-- `text::items::find` meets its contract: it counts the bytes before the first one.
use Rattle.std.proofs.Common.{ℕ, ◌+◌, ◌-◌, not, eqb, length, drop, sym, ap, ◌∙◌, rules, arith}
use borrow.Author.Tests.{tests}
use Rattle.std.proofs.lemmas.List.{drop_min, length-drop, take_all}
use Rattle.std.proofs.lemmas.Iterator.{YieldsList-from_slice}
use Rattle.std.proofs.lemmas.Iterator.Consumers.{YieldsList-at, count_from_yields_List}
use Rattle.std.proofs.lemmas.Iterator.Search.{YieldsList-from_take_while}
use Rattle.std.proofs.lemmas.List.Folds.{length-prefix_len}
use Rattle.text.proofs.Parting.{place-prefix}
use Rattle.text.proofs.items.find.Goals as goal

pub returns : goal.returns
returns c =
    let rest = drop c.args.from c.args.s.now in
    let other = λ (x : ℕ). not (eqb x c.args.b) in
    let same =
    take_all (length c.args.s.now - c.min.result) (drop c.min.result c.args.s.now) (omega (arith, length-drop c.min.result c.args.s.now))
    ∙ ap (λ (n : ℕ). drop n c.args.s.now) c.min.ensures
    ∙ drop_min c.args.from c.args.s.now in
    ap (λ (n : ℕ). c.args.from + n)
    (count_from_yields_List _ _ c.count.ensures.ran
    (YieldsList-from_take_while _ other
    (YieldsList-at c.take_while.ensures.source (YieldsList-from_slice rest (c.iter.ensures.rest ∙ same)))
    c.take_while.ensures.closure c.take_while.ensures.done (λ x b q k. search (rules, tests)))
    ∙ length-prefix_len other rest ∙ sym (place-prefix c.args.b rest))
