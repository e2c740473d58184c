-- `text::items::place_in` meets its contract: it is the first part that is the name.
use Rattle.std.proofs.Common.{ℕ, List, eqb, sym, ap, ap₂, ◌∙◌, rules}
use borrow.Author.Tests.{tests}
use Rattle.std.specs.Cmp.Lexicographic.{pointwise}
use Rattle.std.specs.List.{position}
use Rattle.std.specs.Option.{unwrap_or}
use Rattle.std.proofs.lemmas.Iterator.Search.{position_from_yields_List}
use Rattle.std.proofs.lemmas.Iterator.Splits.{YieldsList-from_slice_split}
use Rattle.text.specs.Items.{items}
use Rattle.text.proofs.Parting.{items-split, blank, placed}
use Rattle.text.proofs.items.place_in.Goals as goal

pub returns : goal.returns
returns c =
    let names = c.args.names.now in
    let name = c.args.name.now in
    let of_parts = λ (is : List (List ℕ)). position (pointwise eqb name) is in
    c.unwrap_or.ensures
    ∙ ap₂ unwrap_or
    (position_from_yields_List (pointwise eqb name) _ _ _ c.position.ensures.ran
    (YieldsList-from_slice_split _ blank names c.split.ensures.rest c.split.ensures.done c.split.ensures.closure (λ x b q k. search (rules, tests)))
    (λ x b q k. search (rules, tests))
    ∙ ap of_parts (sym (items-split names)))
    c.count.ensures
    ∙ placed name (items names)
