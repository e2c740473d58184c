-- `in_word`: judged in 64 bits, as every coordinate is.
use Rattle.std.proofs.Common.{rules, ◌≡◌, ap, ◌∙◌, is_some, to_z-of_z}
use Rattle.numbers.specs.Coordinate.{coordinate}
use Rattle.numbers.proofs.Coordinates.{some-within}
use Rattle.numbers.proofs.coordinate.in_word.Goals as goal

pub returns : goal.returns
returns c =
    let judged : c.judge.result ≡ coordinate c.args.z = search (rules, to_z-of_z) in
    c.is_some.ensures ∙ ap is_some judged ∙ some-within c.args.z
