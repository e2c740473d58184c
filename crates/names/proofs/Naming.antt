-- The words for a form are those for the variant that it is.
use Prim.Native.String.{String}
use mathlib.Core.Path.{◌≡◌, sym, ap, ◌∙◌}
use Rattle.text.specs.Bytes.{bytes}
use Rattle.wording.specs.declared.Words.{Words}
use Rattle.wording.specs.Wording.{words_of}

pub named : {A : Type 0} (name : A → String) {form variant : A} {w : Words} → form ≡ variant → w ≡ words_of (bytes (name variant)) → w ≡ words_of (bytes (name form))
named {A} name e h = h ∙ sym (ap (λ (f : A). words_of (bytes (name f))) e)
