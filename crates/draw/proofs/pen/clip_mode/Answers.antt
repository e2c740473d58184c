-- `clip_mode`: a mode above 2 is 24.
use Rattle.std.proofs.Common.{refl}
use borrow.Author.Tests.{lt-ltb, le-ltb}
use Rattle.lent.proofs.Acting.{halts, quiet, passed-on, taken-is}
use Rattle.draw.proofs.pen.clip_mode.Goals as goal

pub returns-in_err-f : goal.returns-in_err-f
returns-in_err-f c n b vs st = passed-on _ _ c.in_err-f.was c.from_residual.result c.from_residual.ensures

pub returns-then-mode-gt2 : goal.returns-then-mode-gt2
returns-then-mode-gt2 c n b vs st = taken-is _ _ c.in_ok-f.was (halts _ _ _ refl c.refused.ensures (rw (lt-ltb 2 _ c.if-mode-gt2.true) refl))

pub returns : goal.returns
returns c n b vs st = taken-is _ _ c.in_ok-f.was (quiet _ _ _ (rw (le-ltb 2 _ c.if-mode-gt2.false) refl) refl refl refl)
