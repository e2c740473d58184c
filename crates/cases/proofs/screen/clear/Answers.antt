-- `cases::screen::clear` meets its contract: zeros are before what was behind them.
use Rattle.std.proofs.Common.{◌≡◌, ℕ, ◌+◌, ◌≤◌, List, ◌++◌, length, replicate, drop, sym, ap, ◌∙◌, rules, arith}
use Rattle.std.proofs.lemmas.List.{length-replicate}
use Rattle.std.proofs.lemmas.List.Edits.{sets-eq}
use Rattle.cases.proofs.screen.clear.Goals as goal

pub returns : goal.returns
returns c =
    let s = c.args.screen.now in
    let n = c.args.bytes in
    let zeros : c.fill.new.self ≡ replicate n 0 = search rules in
    let end : 0 + length (replicate n 0) ≡ n = omega (arith, length-replicate {A = ℕ} n 0) in
    let fits : 0 + length (replicate n 0) ≤ length s = omega (arith, end) in
    ap (λ (l : List ℕ). l ++ drop n s) zeros ∙ ap (λ (k : ℕ). replicate n 0 ++ drop k s) (sym end) ∙ sym (sets-eq (replicate n 0) s 0 fits)
