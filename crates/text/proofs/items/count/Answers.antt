-- `text::items::count` meets its contract: it counts the parts.
use Rattle.std.proofs.Common.{sym, ap, ◌∙◌, rules, length}
use borrow.Author.Tests.{tests}
use Rattle.std.proofs.lemmas.Iterator.Consumers.{count_from_yields_List}
use Rattle.std.proofs.lemmas.Iterator.Splits.{YieldsList-from_slice_split}
use Rattle.text.proofs.Parting.{items-split, blank}
use Rattle.text.proofs.items.count.Goals as goal

pub returns : goal.returns
returns c =
    count_from_yields_List _ _ c.count.ensures.ran
    (YieldsList-from_slice_split _ blank _ c.split.ensures.rest c.split.ensures.done c.split.ensures.closure (λ x b q k. search (rules, tests)))
    ∙ ap length (sym (items-split c.args.line.now))
