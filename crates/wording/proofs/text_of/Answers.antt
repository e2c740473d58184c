-- `wording::text_of` meets its contract: each arm's words are those of its line.
use mathlib.Core.Path.{sym, ap, ◌∙◌}
use mathlib.Core.List.{[]}
use native.Mathlib.Omega.{arith}
use Rattle.std.proofs.Common.{rules}
use Rattle.text.specs.Bytes.{bytes}
use Rattle.wording.specs.Wording.{calls, opcodes, text_of, None}
use Rattle.wording.proofs.Others.{line, passed_over}
use Rattle.wording.proofs.text_of.Goals as goal

pub returns-in-0 : goal.returns-in-0
unfolding text_of
returns-in-0 c = line c.args.number 0 (omega arith)

pub returns-in-1 : goal.returns-in-1
unfolding text_of
returns-in-1 c = line c.args.number 1 (omega arith)

pub returns-in-10 : goal.returns-in-10
unfolding text_of
returns-in-10 c = line c.args.number 10 (omega arith)

pub returns-in-11 : goal.returns-in-11
unfolding text_of
returns-in-11 c = line c.args.number 11 (omega arith)

pub returns-in-12 : goal.returns-in-12
unfolding text_of
returns-in-12 c = line c.args.number 12 (omega arith)

pub returns-in-13 : goal.returns-in-13
unfolding text_of
returns-in-13 c = line c.args.number 13 (omega arith)

pub returns-in-14 : goal.returns-in-14
unfolding text_of
returns-in-14 c = line c.args.number 14 (omega arith)

pub returns-in-20 : goal.returns-in-20
unfolding text_of
returns-in-20 c = line c.args.number 20 (omega arith)

pub returns-in-21 : goal.returns-in-21
unfolding text_of
returns-in-21 c = line c.args.number 21 (omega arith)

pub returns-in-22 : goal.returns-in-22
unfolding text_of
returns-in-22 c = line c.args.number 22 (omega arith)

pub returns-in-23 : goal.returns-in-23
unfolding text_of
returns-in-23 c = line c.args.number 23 (omega arith)

pub returns-in-24 : goal.returns-in-24
unfolding text_of
returns-in-24 c = line c.args.number 24 (omega arith)

pub returns-in-25 : goal.returns-in-25
unfolding text_of
returns-in-25 c = line c.args.number 25 (omega arith)

pub returns-in-26 : goal.returns-in-26
unfolding text_of
returns-in-26 c = line c.args.number 26 (omega arith)

pub returns-in-27 : goal.returns-in-27
unfolding text_of
returns-in-27 c = line c.args.number 27 (omega arith)

pub returns-in-28 : goal.returns-in-28
unfolding text_of
returns-in-28 c = line c.args.number 28 (omega arith)

pub returns-in-29 : goal.returns-in-29
unfolding text_of
returns-in-29 c = line c.args.number 29 (omega arith)

pub returns-in-30 : goal.returns-in-30
unfolding text_of
returns-in-30 c = line c.args.number 30 (omega arith)

pub returns-in-31 : goal.returns-in-31
unfolding text_of
returns-in-31 c = line c.args.number 31 (omega arith)

pub returns-in-32 : goal.returns-in-32
unfolding text_of
returns-in-32 c = line c.args.number 32 (omega arith)

pub returns-in_default : goal.returns-in_default
unfolding text_of
returns-in_default c =
    let a : None calls c.args.number = search rules in
    let b : None opcodes c.args.number = search rules in
    sym (ap bytes (passed_over _ opcodes calls a ∙ passed_over _ [] opcodes b))
