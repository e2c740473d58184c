-- Two desks of the same numbers are the same: that they are within their rooms has one proof.
use Rattle.std.proofs.Common.{◌≡◌, ℕ, ◌≤◌}
use Rattle.std.proofs.Math.Bridge.{le_prop}
use Rattle.rules.specs.declared.environment.Env.{Env}
use Rattle.desk.specs.declared.desk.Desk.{Desk}

abbrev desk : Env → (b w n : ℕ) → w ≤ 65537 → n ≤ 4194304 → Desk
desk e b w n l s = record { env = e; budget = b; words = w; bytes = n; list_within = l; screen_within = s }

pub same_desk : (e : Env) (b w n : ℕ) (l l' : w ≤ 65537) (s s' : n ≤ 4194304) → desk e b w n l s ≡ desk e b w n l' s'
same_desk e b w n l l' s s' = λ i. desk e b w n (le_prop l l' i) (le_prop s s' i)
