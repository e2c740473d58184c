-- `text::items::item` meets its contract: it is that part, or none.
use Rattle.std.proofs.Common.{[], refl, sym, ap, ◌∙◌, rules, get_or}
use borrow.Author.Tests.{tests}
use Rattle.std.specs.List.{slice_split}
use Rattle.std.proofs.lemmas.Iterator.Consumers.{nth_from_yields_List}
use Rattle.std.proofs.lemmas.Iterator.Splits.{YieldsList-from_slice_split}
use Rattle.text.proofs.Parting.{items-split, blank, item-or-none}
use Rattle.text.proofs.items.item.Goals as goal

pub returns : goal.returns
returns c =
    item-or-none c.nth.result _ (slice_split blank c.args.line.now) c.args.k c.unwrap_or.ensures refl
    (nth_from_yields_List _ _ _ c.nth.ensures.ran
    (YieldsList-from_slice_split _ blank _ c.split.ensures.rest c.split.ensures.done c.split.ensures.closure (λ x b q k. search (rules, tests))))
    ∙ ap (λ is. get_or is c.args.k []) (sym (items-split c.args.line.now))
