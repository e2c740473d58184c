-- Records at the edges, read and written by computing.
use Prim.Native.Nat.{ℕ}
use mathlib.Core.Path.{◌≡◌, refl}
use Rattle.std.specs.Prelude.{Option, Some, None, Result, Ok, Err}
use mathlib.Core.List.{List, [], ◌∷◌, ◌++◌, map}
use lib.ListN.{replicate}
use Rattle.text.specs.Bytes.{bytes}
use Rattle.text.specs.Decimal.{digits, decimal}
use Rattle.text.specs.Number.{digit, reading, decimal_of, unpadded_of}
use Rattle.text.specs.Items.{place_of, same}
use Rattle.record.specs.declared.Block.{Block}
use Rattle.record.specs.declared.Malformed.{Malformed}
use Rattle.record.specs.Block.{line_text, block_text}
use Rattle.record.specs.Read.{block as block_is, line_of, block_of}
use Rattle.record.specs.Append.{left, appending}

abbrev feed : List ℕ
feed = 10 ∷ []

-- three lines, each ended so
abbrev lines : List ℕ → List ℕ → List ℕ → List ℕ → List ℕ
lines end b a s = b ++ (end ++ (a ++ (end ++ (s ++ end))))

abbrev block : List ℕ
block = lines feed (bytes "budget=100") (bytes "answer=1") (bytes "steps=100")

-- ---- how a block is written
pub written : block_text 100 1 100 ≡ block
unfolding digits decimal line_text block_text
written = refl

pub largest : block_text 4294967295 4294967295 4294967295 ≡ lines feed (bytes "budget=4294967295") (bytes "answer=4294967295") (bytes "steps=4294967295")
unfolding digits decimal line_text block_text
largest = refl

-- ---- what is read where a block is due
record Case : Type 0 where
  text : List ℕ
  is : Result (Option Block) Malformed

infixl 70 ◌reads◌
abbrev ◌reads◌ : List ℕ → Result (Option Block) Malformed → Case
t reads b = record { text = t; is = b }

abbrev cases : List Case
cases =
    [] reads Ok None ∷
    block reads Ok (Some (block_is 100 1 100 30)) ∷
    (block ++ block) reads Ok (Some (block_is 100 1 100 30)) ∷
    lines feed (bytes "budget=0") (bytes "answer=0") (bytes "steps=0") reads Ok (Some (block_is 0 0 0 26)) ∷
    lines feed (bytes "budget=4294967295") (bytes "answer=4294967295") (bytes "steps=4294967295") reads Ok (Some (block_is 4294967295 4294967295 4294967295 53)) ∷
    -- what stands behind it is looked at where the next is due
    (block ++ feed) reads Ok (Some (block_is 100 1 100 30)) ∷
    feed reads Err (record {}) ∷
    (0 ∷ []) reads Err (record {}) ∷
    -- no line feed behind the last line; a carriage return before each; an empty line between
    (bytes "budget=1" ++ (feed ++ (bytes "answer=1" ++ (feed ++ bytes "steps=1")))) reads Err (record {}) ∷
    lines (13 ∷ 10 ∷ []) (bytes "budget=1") (bytes "answer=1") (bytes "steps=1") reads Err (record {}) ∷
    lines (10 ∷ 10 ∷ []) (bytes "budget=1") (bytes "answer=1") (bytes "steps=1") reads Err (record {}) ∷
    -- a leading zero, no digit, a number too large, a sign, a blank
    lines feed (bytes "budget=01") (bytes "answer=1") (bytes "steps=1") reads Err (record {}) ∷
    lines feed (bytes "budget=1") (bytes "answer=00") (bytes "steps=1") reads Err (record {}) ∷
    lines feed (bytes "budget=1") (bytes "answer=1") (bytes "steps=") reads Err (record {}) ∷
    lines feed (bytes "budget=4294967296") (bytes "answer=1") (bytes "steps=1") reads Err (record {}) ∷
    lines feed (bytes "budget=+1") (bytes "answer=1") (bytes "steps=1") reads Err (record {}) ∷
    lines feed (bytes "budget=1") (bytes "answer=1 ") (bytes "steps=1") reads Err (record {}) ∷
    -- the lines in another order, another name, a name cut
    lines feed (bytes "answer=1") (bytes "budget=1") (bytes "steps=1") reads Err (record {}) ∷
    lines feed (bytes "Budget=1") (bytes "answer=1") (bytes "steps=1") reads Err (record {}) ∷
    bytes "budget" reads Err (record {}) ∷
    []

pub all : map (λ c. block_of c.text) cases ≡ map (λ c. c.is) cases
unfolding digit reading decimal_of unpadded_of place_of same line_of block_of
all = refl

-- ---- what appending leaves
pub appendings :
    appending (replicate 31 7) 1 100 1 100 ∷ appending (replicate 30 7) 1 100 1 100 ∷ appending [] 1 0 0 0 ∷ []
    ≡ left 0 31 (7 ∷ block) ∷ left 32 1 (replicate 30 7) ∷ left 32 1 [] ∷ []
unfolding digits decimal line_text block_text appending
appendings = refl
