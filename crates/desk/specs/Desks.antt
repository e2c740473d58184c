-- What is kept from line to line.
use Rattle.rules.specs.declared.environment.Env.{Env}
use Rattle.desk.specs.declared.desk.Desk.{Desk}

abbrev pub with_env : Desk → Env → Desk
with_env d e = record { env = e; budget = d.budget; words = d.words; bytes = d.bytes; list_within = d.list_within; screen_within = d.screen_within }
