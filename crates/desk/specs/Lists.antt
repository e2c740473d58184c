-- The line of a list: behind its first item each item is a word of four hexadecimal digits, with an optional repeat, '*N'.
use Rattle.std.specs.Prelude.{ℕ, ◌+◌, ◌-◌, cond, List, [], ◌∷◌, ltb, eqb, length, get_or, drop, replicate, Option, None, Some, Result, Ok, Err}
use Rattle.std.proofs.lemmas.List.Edits.{sets}
use Rattle.text.specs.Items.{items}
use Rattle.text.specs.Number.{decimal_of}
use Rattle.text.specs.Hexadecimal.{hex_of}
use Rattle.desk.specs.declared.fault.Fault.{Fault}
use Rattle.desk.specs.declared.fault.Fault.TheVariants.{NoWord, TooMany}
use Rattle.desk.specs.Faults.{and_then}

-- how often an item has its word: 42 is '*'
abbrev pub times_of : List ℕ → Result ℕ Fault
times_of item = cond (ltb (length item) 5) (Ok 1) (cond (eqb (get_or item 4 0) 42) (and_then (decimal_of (drop 5 item)) Ok) (Err NoWord))

-- how many words of the room are the list, or what is wrong with the line, and the room
pub record Loaded : Type 0 where
  pub words : Result ℕ Fault
  pub room : List ℕ

abbrev pub loaded : Result ℕ Fault → List ℕ → Loaded
loaded n r = record { words = n; room = r }

-- a word so often behind the first n words of the room
abbrev pub put : ℕ → ℕ → List ℕ → ℕ → Loaded
put times word room n =
    cond (ltb (length room - n) times) (loaded (Err TooMany) room) (loaded (Ok (n + times)) (sets room n (replicate times word)))

abbrev pub put_times : Result ℕ Fault → ℕ → List ℕ → ℕ → Loaded
put_times (Ok times) word room n = put times word room n
put_times (Err f) word room n = loaded (Err f) room

abbrev pub put_word : Option ℕ → Result ℕ Fault → List ℕ → ℕ → Loaded
put_word (Some word) t room n = put_times t word room n
put_word None t room n = loaded (Err NoWord) room

abbrev pub read_item : List ℕ → List ℕ → ℕ → Loaded
read_item item room n = put_word (hex_of item) (times_of item) room n

-- further items, unless one was wrong
abbrev pub unless_wrong : Result ℕ Fault → (ℕ → Loaded) → List ℕ → Loaded
unless_wrong (Ok n) further room = further n
unless_wrong (Err f) further room = loaded (Err f) room

unfoldable pub read_items : List (List ℕ) → List ℕ → ℕ → Loaded
read_items [] room n = loaded (Ok n) room
read_items (i ∷ is) room n = let t = read_item i room n in unless_wrong t.words (read_items is t.room) t.room

abbrev pub listed : List ℕ → List ℕ → Loaded
listed line room = read_items (drop 1 (items line)) room 0
