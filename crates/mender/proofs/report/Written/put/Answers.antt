-- `put`: three numbers stored at once are the stores of each.
use Prim.Native.Nat.{◌+◌, ◌-◌}
use mathlib.Core.Path.{refl, sym, ◌∙◌}
use native.Mathlib.Omega.{arith}
use Rattle.std.proofs.lemmas.Slice.{put_mid-paste}
use Rattle.std.proofs.lemmas.List.Edits.{sets-eq}
use Rattle.mender.specs.Report.{three}
use Rattle.mender.proofs.report.Written.put.Goals as goal

pub returns-clause-report : goal.returns-clause-report
returns-clause-report c =
    let w = c.args.self.now in
    let change = three c.args.change in
    put_mid-paste w.to (w.to + 3 - w.to) w.report.now c.copy_from_slice.new.self change 3 (c.copy_from_slice.ensures.after ∙ c.from-numbers.ensures) (omega arith) refl
    ∙ sym (sets-eq change w.report.now w.to c.requires)
