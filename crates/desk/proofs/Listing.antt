-- A list is read item by item, and an item's word is put behind those before it.
use Rattle.std.proofs.Common.{◌≡◌, ℕ, ◌+◌, ◌-◌, ◌<◌, ◌≤◌, Bool, cond, List, [], ◌++◌, length, take, append_assoc, get_or, drop, replicate, sym, ap, ◌∙◌, add-one, arith, drop-cons, drop-drop, drop_of_length-le, le-ltb}
use Rattle.std.specs.Prelude.{Result, Ok, Err}
use Rattle.std.proofs.lemmas.List.Edits.{sets, sets-eq}
use Rattle.std.proofs.lemmas.List.{length-replicate}
use borrow.Rule.Slice.PartMut.{put_mid}
use Rattle.desk.specs.declared.fault.Fault.{Fault}
use Rattle.desk.specs.declared.fault.Fault.TheVariants.{TooMany}
use Rattle.desk.specs.Lists.{Loaded, loaded, put, read_item, unless_wrong, read_items}

-- ---- a word so often, where there is room for it
module _ (times word : ℕ) (room : List ℕ) (n : ℕ) (h : times ≤ length room - n) (within : n ≤ length room) where
  filled : put_mid n (n + times - n) room (replicate times word) ≡ sets room n (replicate times word)
  filled =
      let fits : n + length (replicate times word) ≤ length room = simp length-replicate (omega arith) in
      let all : n + times - n ≡ times = omega arith in
      ap (λ (k : ℕ). take n room ++ (replicate times word ++ drop k (drop n room))) all
      ∙ ap (λ (l : List ℕ). take n room ++ (replicate times word ++ l)) (drop-drop times n room)
      ∙ sym
      (sets-eq (replicate times word) room n fits ∙ append_assoc (take n room) (replicate times word) (drop (n + length (replicate times word)) room)
      ∙ ap (λ (k : ℕ). take n room ++ (replicate times word ++ drop (n + k) room)) (length-replicate times word))

  pub puts : {new : List ℕ} → new ≡ replicate (n + times - n) word → loaded (Ok (n + times)) (put_mid n (n + times - n) room new) ≡ put times word room n
  puts e =
      let all : n + times - n ≡ times = omega arith in
      ap (λ (l : List ℕ). loaded (Ok (n + times)) (put_mid n (n + times - n) room l)) (e ∙ ap (λ (k : ℕ). replicate k word) all) ∙ ap (loaded (Ok (n + times))) filled
      ∙ sym (ap (λ (t : Bool). cond t (loaded (Err TooMany) room) (loaded (Ok (n + times)) (sets room n (replicate times word)))) (le-ltb (length room - n) times h))

-- ---- item by item
module _ (is : List (List ℕ)) (k : ℕ) (room : List ℕ) (n : ℕ) where
  pub none_left : length is ≤ k → read_items (drop k is) room n ≡ loaded (Ok n) room
  unfolding read_items
  none_left h = ap (λ (l : List (List ℕ)). read_items l room n) (drop_of_length-le is h)

  module _ (h : k < length is) {item : List ℕ} (e : item ≡ get_or is k []) {r : Result ℕ Fault} {room' : List ℕ} (l : loaded r room' ≡ read_item item room n) where
    opened : read_items (drop k is) room n ≡ unless_wrong r (read_items (drop (k + 1) is) room') room'
    unfolding read_items
    opened =
        ap (λ (l : List (List ℕ)). read_items l room n) (drop-cons is k [] h)
        ∙ sym
        (ap (λ (t : Loaded). unless_wrong t.words (read_items (drop (k + 1) is) t.room) t.room) (l ∙ ap (λ (i : List ℕ). read_item i room n) e)
        ∙ ap (λ (j : ℕ). let t = read_item (get_or is k []) room n in unless_wrong t.words (read_items (drop j is) t.room) t.room) (add-one k))

    pub stops : {f : Fault} → r ≡ Err f → read_items (drop k is) room n ≡ loaded (Err f) room'
    stops o = opened ∙ ap (λ (x : Result ℕ Fault). unless_wrong x (read_items (drop (k + 1) is) room') room') o

    pub goes_on : {n' : ℕ} → r ≡ Ok n' → read_items (drop k is) room n ≡ read_items (drop (k + 1) is) room' n'
    goes_on o = opened ∙ ap (λ (x : Result ℕ Fault). unless_wrong x (read_items (drop (k + 1) is) room') room') o
