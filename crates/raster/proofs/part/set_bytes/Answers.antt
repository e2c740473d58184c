-- `raster::part::set_bytes` meets its contract: each call of the closure gives the same.
use Rattle.std.proofs.Common.{of_calls, ◌≡◌, replicate, ℕ, ◌∙◌, ap}
use Rattle.raster.proofs.Parts.{all-alike}
use Rattle.raster.proofs.part.set_bytes.Goals as goal

pub returns : goal.returns
returns c = all-alike _ c.args.c (λ f. f.0 ≡ c.args.c) (λ f x g h s. search (of_calls, h)) _ c.fill_with.new.self _ (search of_calls) c.fill_with.ensures.ran.1
    ∙ ap (λ (n : ℕ). replicate n c.args.c) c.fill_with.ensures.len
