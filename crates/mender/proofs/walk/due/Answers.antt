-- `due`: each arm goes by the word's layout.
use Prim.Native.Nat.{ℕ}
use mathlib.Core.Path.{◌≡◌, ◌∙◌}
use Rattle.forms.specs.Layout.{layout_of, layout_at}
use Rattle.forms.specs.declared.layout.Layout.{Layout}
use Rattle.rules.specs.Meaning.{meaning}
use Rattle.rules.specs.declared.opcode.Form.{Form}
use Rattle.rules.specs.Table.{form_of}
use Rattle.forms.proofs.Layouts.{by_form}
use Rattle.mender.proofs.Walking.{an-opcode, no-opcode, so-many, two-words, one-word}
use Rattle.mender.proofs.walk.due.Goals as goal

-- the layout l of the form f of the word x
laid : (x : ℕ) {f : Form} {l : Layout} → l ≡ layout_of (meaning f) → f ≡ form_of x → l ≡ layout_at x
laid x of form = of ∙ by_form x form

pub returns-in-Strange : goal.returns-in-Strange
returns-in-Strange c = no-opcode _ (laid _ c.layout_of.ensures c.form_of.ensures) _ c.in-Strange.is

pub returns-in-Plain : goal.returns-in-Plain
returns-in-Plain c = c.begin-in-Plain.ensures ∙ an-opcode _ _ (so-many _ (laid _ c.layout_of.ensures c.form_of.ensures) c.in-Plain.is)

pub returns-in-Opens : goal.returns-in-Opens
returns-in-Opens c = c.begin.ensures ∙ an-opcode _ _ (two-words _ (laid _ c.layout_of.ensures c.form_of.ensures) c.in-Opens.is)

pub returns-in-Ends : goal.returns-in-Ends
returns-in-Ends c = c.begin-in-Ends.ensures ∙ an-opcode _ _ (one-word _ (laid _ c.layout_of.ensures c.form_of.ensures) c.in-Ends.is)
