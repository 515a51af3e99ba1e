-- The entries of a list are read as written.
use Rattle.model_text.proofs.Common.{◌≡◌, ℕ, ◌+◌, ◌^◌, ◌<◌, Bool, true, false, List, [], ◌∷◌, length, map, get_or, set, All, None, Ok, refl, sym, subst, arith, decimal, All-append, All-map}
use Rattle.model_text.proofs.Common.{All-weaker, All-head, All-tail, All-from_recursion, Dec, repeated_reading, Grid, CellId, cell_count, layer_of, row_of, column_of, place, HasSize, row_below}
use Rattle.model_text.proofs.Common.{column_below, layer_below, entry_of, entry_at, is_left_out, no_marks, new_list, Kind, first_fault, Differ, IsWord, number_word, Line, IsLine, Takes, count_is_word}
use Rattle.model_text.proofs.Common.{list_item_6, IsEntry, IsDec, number_at, number, zero, suc, cond, replicate, ◌∙◌, AllPairs, get_or-set_other, takes_none, then_takes, last_takes, line_takes}
use Rattle.model_text.proofs.{FrameTexts.decimal_item, FrameTexts.number_item, FrameTexts.is_entry, FrameTexts.cell_reads, TimeTexts.canonical_word}

-- The cells of a list's entries are not marked when their turn comes.
module _ {E : Type 0} (kind : Kind E) where
  abbrev pub marks_after : List Bool → List E → List Bool
  marks_after marks [] = marks
  marks_after marks (x ∷ xs) = marks_after (set marks (kind.place x) true) xs

  -- each entry's cell is free when its turn comes
  abbrev pub AreFree : List Bool → List E → Type 0
  AreFree marks [] = Unit {0}
  AreFree marks (x ∷ xs) = (get_or marks (kind.place x) false ≡ false) × AreFree (set marks (kind.place x) true) xs

  without_marks : (xs : List E) → AreFree [] xs
  without_marks [] = tt
  without_marks (x ∷ xs) = (refl, without_marks xs)

  stays_free : (marks : List Bool) (x : E) (xs : List E) → All (λ y. get_or marks (kind.place y) false ≡ false) xs → All (λ y. Differ kind x y) xs
      → All (λ y. get_or (set marks (kind.place x) true) (kind.place y) false ≡ false) xs
  stays_free marks x xs h apart = λ k d lt.
      get_or-set_other marks (kind.place x) (kind.place (get_or xs k d)) true false (λ same. apart k d lt (sym same)) ∙ h k d lt

  free_by_pairs : (marks : List Bool) (xs : List E) → All (λ y. get_or marks (kind.place y) false ≡ false) xs → AllPairs (Differ kind) xs → AreFree marks xs
  free_by_pairs marks [] h pairs = tt
  free_by_pairs marks (x ∷ xs) h pairs =
      let apart : All (λ y. Differ kind x y) xs = λ k d lt. pairs 0 (suc k) d (omega arith) (omega arith) in
      let others : AllPairs (Differ kind) xs = λ i j d p q. pairs (suc i) (suc j) d (omega arith) (omega arith) in (
        All-head (λ y. get_or marks (kind.place y) false ≡ false) x xs h,
        free_by_pairs (set marks (kind.place x) true) xs (stays_free marks x xs (All-tail (λ y. get_or marks (kind.place y) false ≡ false) x xs h) apart) others,
      )

  nothing_marked : (n k : ℕ) → get_or (replicate n false) k false ≡ false
  nothing_marked zero k = refl
  nothing_marked (suc n) zero = refl
  nothing_marked (suc n) (suc k) = nothing_marked n k

  free_by : (b : Bool) (cells : ℕ) (xs : List E) → (b ≡ true → AllPairs (Differ kind) xs) → AreFree (replicate (cond b cells 0) false) xs
  free_by true cells xs once = free_by_pairs (replicate cells false) xs (λ k d lt. nothing_marked cells (kind.place (get_or xs k d))) (once refl)
  free_by false cells xs once = without_marks xs

  -- in a list that may name a cell at most once, and does so
  pub all_free : (g : Grid) (xs : List E) → (kind.once ≡ true → AllPairs (Differ kind) xs) → AreFree (no_marks kind g) xs
  all_free g xs once = free_by kind.once (cell_count g) xs once

-- how the numbers of an entry are written
pub record WritesNumbers {E : Type 0} (kind : Kind E) (cell : E → ℕ) (numbers : E → List Dec) : Type 0 where
  pub numbers_are : (at : CellId) (c : List Dec) → length c ≡ length kind.columns → numbers (kind.entry at c) ≡ c
  pub cell_is : (at : CellId) (c : List Dec) → cell (kind.entry at c) ≡ at.0
  pub place_is : (at : CellId) (c : List Dec) → kind.place (kind.entry at c) ≡ at.0

-- numbers are read as written
numbers_read : (file : List ℕ) (line : ℕ) (ds : List Dec) → All IsDec ds → repeated_reading (length ds) (number_at number file line) (map number_word ds) ≡ Ok (ds, [])
unfolding repeated_reading
numbers_read file line [] h = refl
numbers_read file line (d ∷ ds) h =
    rw (number_item file line d (All-head (λ x. IsDec x) d ds h), numbers_read file line ds (All-tail (λ x. IsDec x) d ds h)) refl

module _ {E : Type 0} (kind : Kind E) (cell : E → ℕ) (numbers : E → List Dec) (w : WritesNumbers kind cell numbers) (g : Grid) (h : HasSize g) where
  abbrev IsGood : E → Type 0
  IsGood x = IsEntry kind (cell_count g) x

  abbrev pub entry_line : E → Line
  entry_line x = list_item_6 g (cell x) (numbers x)

  -- what holds of the entry of a cell with numbers holds of a good entry
  for_good : (P : E → Type 0) → ((at : CellId) (c : List Dec) → at.0 < cell_count g → length c ≡ length kind.columns → All IsDec c →
      first_fault kind.columns c ≡ None → P (kind.entry at c)) → (x : E) → IsGood x → P x
  for_good P f x e = subst P (sym e.is) (f e.cell e.numbers e.inside e.count e.canonical e.passes)

  small : (cell : ℕ) → cell < cell_count g → (layer_of g cell + 1 < 10 ^ 18) × (row_of g cell + 1 < 10 ^ 18) × (column_of g cell + 1 < 10 ^ 18)
  small cell low = (omega (arith, layer_below g h cell low, h.layers.1), omega (arith, row_below g h cell low, h.rows.1), omega (arith, column_below g h cell low, h.cols.1))

  made_reads : (file : List ℕ) (line : ℕ) (marks : List Bool) (at : CellId) (c : List Dec) → at.0 < cell_count g → length c ≡ length kind.columns →
      All IsDec c → first_fault kind.columns c ≡ None → get_or marks at.0 false ≡ false
      → entry_of kind file line g marks (list_item_6 g at.0 (numbers (kind.entry at c))) ≡ Ok (kind.entry at c, at)
  unfolding entry_of list_item_6
  made_reads file line marks at c low count canonical passes free =
      let few = small at.0 low in
      let ws = map number_word (numbers (kind.entry at c)) in
      let read : repeated_reading (length kind.columns) (number_at number file line) ws ≡ Ok (c, []) = rw (w.numbers_are at c count, ← count) (numbers_read file line c canonical) in
      rw (
        decimal_item file line (layer_of g at.0 + 1) few.0,
        decimal_item file line (row_of g at.0 + 1) few.1,
        decimal_item file line (column_of g at.0 + 1) few.2,
        read,
        cell_reads g h file line at low,
        passes,
        free,
      ) refl

  made_is_line : (at : CellId) (c : List Dec) → at.0 < cell_count g → length c ≡ length kind.columns → All IsDec c → IsLine (list_item_6 g at.0 (numbers (kind.entry at c)))
  unfolding list_item_6
  made_is_line at c low count canonical =
      let few = small at.0 low in
      let ds = numbers (kind.entry at c) in
      let decimals : All IsDec ds = rw (w.numbers_are at c count) canonical in
      let back = All-map (λ v. IsWord v) number_word ds (All-weaker (λ d. IsDec d) (λ d. IsWord (number_word d)) canonical_word ds decimals) in
      let front = All-from_recursion (λ v. IsWord v) (map decimal (place g at.0)) (
        count_is_word (layer_of g at.0 + 1) few.0,
        (count_is_word (row_of g at.0 + 1) few.1, (count_is_word (column_of g at.0 + 1) few.2, tt)),
      ) in
      record { some = omega arith; words = All-append (λ v. IsWord v) (map decimal (place g at.0)) (map number_word ds) front back }

  left_out : (cell : ℕ) (ds : List Dec) → cell < cell_count g → is_left_out (list_item_6 g cell ds) ≡ false
  unfolding list_item_6
  left_out cell ds low = is_entry (layer_of g cell + 1) (decimal (row_of g cell + 1) ∷ decimal (column_of g cell + 1) ∷ map number_word ds) (small cell low).0

  entry_takes : (file : List ℕ) (marks : List Bool) (x : E) → IsGood x → get_or marks (kind.place x) false ≡ false
      → Takes (λ left. entry_at kind file g (marks, left)) (entry_line x ∷ []) (λ left. (x, (set marks (kind.place x) true, left)))
  unfolding entry_at
  entry_takes file marks =
      for_good (λ x. get_or marks (kind.place x) false ≡ false → Takes (λ left. entry_at kind file g (marks, left)) (entry_line x ∷ []) (λ left. (x, (set marks (kind.place x) true, left))))
      (λ at c low count canonical passes free.
      let unmarked : get_or marks at.0 false ≡ false = rw (w.place_is at c) at free in
      rw (w.cell_is at c, w.place_is at c) (line_takes _ file (made_is_line at c low count canonical)
      (λ n e. rw (e, left_out at.0 (numbers (kind.entry at c)) low, made_reads file n marks at c low count canonical passes unmarked) takes_none)))

  entries_take : (file : List ℕ) (marks : List Bool) (xs : List E) → All IsGood xs → AreFree kind marks xs
      → Takes (λ left. repeated_reading (length xs) (entry_at kind file g) (marks, left)) (map entry_line xs) (λ left. (xs, (marks_after kind marks xs, left)))
  unfolding repeated_reading
  entries_take file marks [] good free = takes_none
  entries_take file marks (x ∷ xs) good free =
      then_takes _ (entry_takes file marks x (All-head (λ y. IsGood y) x xs good) free.0)
      (last_takes _ (entries_take file (set marks (kind.place x) true) xs (All-tail (λ y. IsGood y) x xs good) free.1) (λ left. refl))

  -- item 6 of each entry
  pub list_takes : (file : List ℕ) (xs : List E) → All IsGood xs → AreFree kind (no_marks kind g) xs → Takes (new_list kind file g (length xs)) (map entry_line xs) (λ left. (xs, left))
  unfolding new_list
  list_takes file xs good free = last_takes _ (entries_take file (no_marks kind g) xs good free) (λ left. refl)
