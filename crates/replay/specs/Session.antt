-- Document 02, T-12: a session of one list, each call given the environment last got back, every block recorded.
use Rattle.std.specs.Prelude.{ℕ, ◌≡◌, List, [], ◌∷◌, ◌++◌, length}
use Rattle.rules.specs.Environment.{Env}
use Rattle.rules.specs.Door as Door
use Rattle.record.specs.Block.{block_text}
use Rattle.record.specs.Append.{left, appending}

-- a call: its budget, and the screen as it was lent to it
pub record Call : Type 0 where
  pub budget : ℕ
  pub screen : List ℕ

-- what is recorded of a call
pub record Noted : Type 0 where
  pub budget : ℕ
  pub answer : ℕ
  pub steps : ℕ

unfoldable pub session : List ℕ → Env → List Call → List Noted
session w e [] = []
session w e (c ∷ cs) =
    let r = Door.whole w c.screen e c.budget in
    record { budget = c.budget; answer = r.verdict.number; steps = r.steps } ∷ session w r.env cs

-- the environment got back last
unfoldable pub last_env : List ℕ → Env → List Call → Env
last_env w e [] = e
last_env w e (c ∷ cs) = last_env w (Door.whole w c.screen e c.budget).env cs

-- the calls with these budgets on one screen, on which nobody else draws
unfoldable pub on_one : List ℕ → Env → List ℕ → List ℕ → List Call
on_one w e s [] = []
on_one w e s (b ∷ bs) = let r = Door.whole w s e b in record { budget = b; screen = s } ∷ on_one w r.env r.screen bs

-- every screen has n bytes; nothing is asked of the bytes, so others may have drawn between the calls
abbrev pub Long : ℕ → List Call → Type 0
Long n [] = Unit {0}
Long n (c ∷ cs) = (length c.screen ≡ n) × Long n cs

-- ---- the record
abbrev pub text_of : Noted → List ℕ
text_of x = block_text x.budget x.answer x.steps

unfoldable pub record_text : List Noted → List ℕ
record_text [] = []
record_text (x ∷ xs) = text_of x ++ record_text xs

-- each block is appended behind the one before, and none is refused: the record r with u bytes in use becomes r' with u'
pub data Entered : List Noted → List ℕ → ℕ → List ℕ → ℕ → Type 0 where
  none : {r : List ℕ} {u : ℕ} → Entered [] r u r u
  one : {x : Noted} {xs : List Noted} {r r' r'' : List ℕ} {u u' u'' : ℕ}
      → appending r u x.budget x.answer x.steps ≡ left 0 u' r' → Entered xs r' u' r'' u'' → Entered (x ∷ xs) r u r'' u''
