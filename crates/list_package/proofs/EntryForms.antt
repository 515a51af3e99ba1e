-- What is read of the entries of a list.
use Rattle.list_package.proofs.Common.{integer, number, number_at, ok_gives_only, goes_on, if_clear, err_gives_only, repeated_are, repeated_gives, then_, gives_only_less, GivesOnly, IsDec, Dec}
use Rattle.list_package.proofs.Common.{Differ, IsEntry, Kind, cell_at, entry_at, entry_of, first_fault, is_left_out, new_list, no_marks, test_result, HasSize, cell_count, most_entries, CellId, Grid}
use Rattle.list_package.proofs.Common.{Limits, refusal, words, Code, CellOutside, Left, line_at, All, Bool, List, None, Option, Some, [], ap, arith, cond, false, get_or, length, refl, set, suc, sym}
use Rattle.list_package.proofs.Common.{true, ℕ, ℤ, ◌-◌, ◌<◌, ◌∙◌, ◌∷◌, ◌≡◌, ◌≤◌, All-cons, All-nil, AllPairs, get_or-set_other, get_or-set_same, length-replicate, length-set}
use Rattle.array_text.proofs.{ArrayForms.item_is, NumberForms.number_is}
use Rattle.std.proofs.lemmas.List.Kept.{AllPairs-cons}
use Rattle.model_types.proofs.Numbering.{cell_within}
use Rattle.dis_package.proofs.FrameForms.{within_is}

passed_is : (o : Option Code) (file : List ℕ) (line : ℕ) → GivesOnly (λ u. o ≡ None) (test_result o file line)
passed_is None file line = ok_gives_only refl
passed_is (Some code) file line = err_gives_only

below : (n k : ℕ) → (1 ≤ k) × (k ≤ n) → k - 1 < n
below n k h = let low : 1 ≤ k = h.0 in let high : k ≤ n = h.1 in omega arith

module _ (file : List ℕ) (g : Grid) (size : HasSize g) where
  cell_is : (line : ℕ) (layer row col : ℤ) → GivesOnly (λ c. c.0 < cell_count g) (cell_at file line g layer row col)
  unfolding cell_at
  cell_is line layer row col =
      let r = refusal CellOutside file line in
      then_ _ (within_is layer g.layers r) (λ k a. then_ _ (within_is row g.rows r) (λ i b. then_ _ (within_is col g.cols r)
      (λ j c. ok_gives_only (cell_within g size (k - 1) (i - 1) (j - 1) (below g.layers k a) (below g.rows i b) (below g.cols j c)))))

module _ {E : Type 0} (kind : Kind E) (cells : ℕ) where
  -- an entry of a cell that wasn't marked and is marked now
  record IsNewAt (before after : List Bool) (x : E) : Type 0 where
    pub entry : IsEntry kind cells x
    pub inside : kind.place x < cells
    pub free : get_or before (kind.place x) false ≡ false
    pub marked : after ≡ set before (kind.place x) true

  -- this many entries and, where each cell has a mark, of cells that weren't marked, each cell once
  record AreEntries (n : ℕ) (marks : List Bool) (xs : List E) : Type 0 where
    pub count : length xs ≡ n
    pub entries : All (IsEntry kind cells) xs
    pub free : length marks ≡ cells → All (λ x. get_or marks (kind.place x) false ≡ false) xs
    pub once : length marks ≡ cells → AllPairs (Differ kind) xs

  -- a list of a period, whichever the period
  pub record IsNewList (limits : Limits) (xs : List E) : Type 0 where
    pub few : length xs ≤ most_entries limits
    pub entries : All (IsEntry kind cells) xs
    pub once : kind.once ≡ true → AllPairs (Differ kind) xs

  no_pairs : AllPairs (Differ kind) []
  no_pairs i j d lt low = absurd (omega (arith, low))

  pub no_list : (limits : Limits) → IsNewList limits []
  no_list limits = record { few = omega arith; entries = All-nil (IsEntry kind cells); once = λ e. no_pairs }

module _ {E : Type 0} (kind : Kind E) (placed : (c : CellId) (ds : List Dec) → kind.place (kind.entry c ds) ≡ c.0) (file : List ℕ) (g : Grid) (size : HasSize g) where
  entry_is : (line : ℕ) (marks : List Bool) (ws : List (List ℕ))
      → GivesOnly (λ x. IsEntry kind (cell_count g) x.0 × (kind.place x.0 ≡ x.1.0) × (x.1.0 < cell_count g) × (get_or marks x.1.0 false ≡ false)) (entry_of kind file line g marks ws)
  unfolding entry_of
  entry_is line marks ws =
      goes_on (number_at integer file line ws) _ (λ layer a. goes_on (number_at integer file line layer.1) _ (λ row b. goes_on (number_at integer file line row.1) _
      (λ col c. then_ _ (repeated_are (number_at number file line) IsDec (item_is number IsDec number_is file line) (length kind.columns) col.1)
      (λ numbers are. then_ _ (cell_is file g size line layer.0 row.0 col.0) (λ cell low. then_ _ (passed_is (first_fault kind.columns numbers.0) file line)
      (λ tested passes. if_clear (get_or marks cell.0 false) _ _ (λ free.
      ok_gives_only (record { cell = cell; numbers = numbers.0; inside = low; count = are.0; canonical = are.1; passes = passes; is = refl }, placed cell numbers.0, low, free))))))))

  entry_at_is : (s : List Bool × Left) → GivesOnly (λ x. IsNewAt kind (cell_count g) s.0 x.1.0 x.0) (entry_at kind file g s)
  unfolding entry_at
  entry_at_is s =
      goes_on (line_at file s.1) _ (λ line a. if_clear (is_left_out (words line.0.bytes)) _ _ (λ b. then_ _ (entry_is line.0.number s.0 (words line.0.bytes))
      (λ e new. ok_gives_only (record { entry = new.0; inside = rw new.1 new.2; free = rw new.1 new.3; marked = rw new.1 refl }))))

  -- a cell that isn't marked after x is another one, which wasn't marked before
  apart : (before after : List Bool) (x y : E) → length before ≡ cell_count g → IsNewAt kind (cell_count g) before after x → get_or after (kind.place y) false ≡ false → Differ kind x y
  apart before after x y many new free same =
      let low : kind.place x < length before = rw many new.inside in
      let marked : get_or after (kind.place x) false ≡ true = rw new.marked (get_or-set_same before (kind.place x) true false low) in
      let wrong : true ≡ false = sym marked ∙ ap (λ (k : ℕ). get_or after k false) same ∙ free in
      absurd cc

  was_free : (before after : List Bool) (x y : E) → length before ≡ cell_count g → IsNewAt kind (cell_count g) before after x →
      get_or after (kind.place y) false ≡ false → get_or before (kind.place y) false ≡ false
  was_free before after x y many new free =
      let other : kind.place y ≡ kind.place x → ⊥ = λ e. apart before after x y many new free (sym e) in
      let kept : get_or (set before (kind.place x) true) (kind.place y) false ≡ get_or before (kind.place y) false = get_or-set_other before (kind.place x) (kind.place y) true false other in
      let there : get_or (set before (kind.place x) true) (kind.place y) false ≡ false = rw new.marked at free in
      sym kept ∙ there

  still : (before after : List Bool) (x : E) → IsNewAt kind (cell_count g) before after x → length before ≡ cell_count g → length after ≡ cell_count g
  still before after x new many = ap (λ (ms : List Bool). length ms) new.marked ∙ length-set before (kind.place x) true ∙ many

  abbrev Are : ℕ → List Bool × Left → List E × (List Bool × Left) → Type 0
  Are n s x = AreEntries kind (cell_count g) n s.0 x.0

  no_entries : (s : List Bool × Left) → Are 0 s ([], s)
  no_entries s = record {
    count = refl;
    entries = All-nil (IsEntry kind (cell_count g));
    free = λ many. All-nil (λ y. get_or s.0 (kind.place y) false ≡ false);
    once = λ many. no_pairs kind (cell_count g);
  }

  one_entry : (n : ℕ) (s : List Bool × Left) → GivesOnly (λ x. (more : List E × (List Bool × Left)) → Are n x.1 more → Are (suc n) s (x.0 ∷ more.0, more.1)) (entry_at kind file g s)
  one_entry n s = gives_only_less (entry_at_is s) (λ x new more rest. record {
    count = let counted : length more.0 ≡ n = rest.count in omega (arith, counted);
    entries = All-cons (IsEntry kind (cell_count g)) x.0 more.0 new.entry rest.entries;
    free = λ many. All-cons (λ y. get_or s.0 (kind.place y) false ≡ false) x.0 more.0 new.free
        (λ k d lt. was_free s.0 x.1.0 x.0 (get_or more.0 k d) many new (rest.free (still s.0 x.1.0 x.0 new many) k d lt));
    once = λ many. AllPairs-cons (Differ kind) x.0 more.0
        (λ k d lt. apart s.0 x.1.0 x.0 (get_or more.0 k d) many new (rest.free (still s.0 x.1.0 x.0 new many) k d lt))
        (rest.once (still s.0 x.1.0 x.0 new many));
  })

  pub new_list_is : (limits : Limits) (n : ℕ) (left : Left) → n ≤ most_entries limits → GivesOnly (λ x. IsNewList kind (cell_count g) limits x.0) (new_list kind file g n left)
  unfolding new_list
  new_list_is limits n left few =
      let marks : kind.once ≡ true → length (no_marks kind g) ≡ cell_count g = λ e. length-replicate (cond kind.once (cell_count g) 0) false ∙ ap (λ (b : Bool). cond b (cell_count g) 0) e in
      then_ _ (repeated_gives (entry_at kind file g) Are no_entries one_entry n (no_marks kind g, left)) (λ x are.
      let counted : length x.0 ≡ n = are.count in
      ok_gives_only (record { few = omega (arith, few, counted); entries = are.entries; once = λ e. are.once (marks e) }))
