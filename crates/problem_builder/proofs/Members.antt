-- Variable cells in their list, and sources in theirs.
use Rattle.problem_builder.proofs.Common.{AreBranches, Branches, cell_over, fixed_over, sources_over, step_over, variable_cells, In-map, whole_cell, whole_fixed, whole_step, ◌≡◌, ℕ, zero, suc, ◌+◌}
use Rattle.problem_builder.proofs.Common.{◌<◌, ◌≤◌, ◌⊎◌, inl, inr, Bool, true, false, cond, Option, Some, None, List, [], ◌∷◌, ◌++◌, map, refl, sym, ap, ◌∙◌, subst, arith, All, ℤ, pos, negsuc, length}
use Rattle.problem_builder.proofs.Common.{filter, filter_map, range_with_len, Contains, option_to_list, none-some, Entry, FlowModel, is_variable, variable_below, period_at, FixedSource}
use Rattle.problem_builder.proofs.Common.{constant_faces, fixed_sources, storage_at, as_general, local_entries, ToConstant, ToGeneral, FromStorage, IsHeadNumber, IsNotNegative, IsEntryValid}
use Rattle.problem_builder.proofs.Common.{is_active, int_at, is_constant, cell_count, HasSize, In, In-All, map-In, filter_map-In, In-get_or, Contains-In, passing, rank, rank_below, at_rank, below_is}
use Rattle.problem_builder.proofs.Common.{not, int_lt, ◌==◌, unsigned_abs, and_parts, Bound, Fixed, Entries, entries_at, no_entries, TimeStep, passing_are, end_within, IsActive, HasOldHeads, Storage}
use Rattle.problem_builder.proofs.Common.{IsCellNamed, Wide, most_cells}
use Rattle.model_types.specs.declared.entry.Entry.TheVariants.{General as GeneralEntry}
use Rattle.std.proofs.lemmas.Bool.Decides.{nat_tests}

cond-In : (b : Bool) (y : ℕ) (ys : List ℕ) (x : ℕ) → In (cond b (y ∷ ys) ys) x → ((y ≡ x) × (b ≡ true)) ⊎ In ys x
cond-In true y ys x (inl e) = inl (e, refl)
cond-In true y ys x (inr i) = inr i
cond-In false y ys x i = inr i

filter-In : (test : ℕ → Bool) (xs : List ℕ) (x : ℕ) → In (filter test xs) x → In xs x × (test x ≡ true)
filter-In test [] x i = absurd i
filter-In test (y ∷ ys) x i = elim (cond-In (test y) y (filter test ys) x i) [
  | inl k ↦ (inl k.0, ap test (sym k.0) ∙ k.1)
  | inr j ↦ (let (a, b) = filter-In test ys x j in (inr a, b))
]

pub range-In : (a n x : ℕ) → In (range_with_len a n) x → (a ≤ x) × (x < a + n)
range-In a zero x i = absurd i
range-In a (suc n) x (inl e) = (omega (arith, e), omega (arith, e))
range-In a (suc n) x (inr i) = let k = range-In (a + 1) n x i in (omega (arith, k.0), omega (arith, k.1))

pub variable-In : (m : FlowModel) (p n c : ℕ) → In (variable_below m p n) c → (is_variable m p c ≡ true) × (c < n)
variable-In m p n c i = grind (arith, filter-In, below_is, range-In)

pub In-variable : (m : FlowModel) (p n c : ℕ) → is_variable m p c ≡ true → c < n → In (variable_below m p n) c
In-variable m p n c v lt =
    let k = rank_below (is_variable m p) c n v lt in
    subst (λ xs. In xs c) (sym (below_is m p n))
    (subst (In (passing (is_variable m p) n)) (at_rank (is_variable m p) n c v lt) (In-get_or (passing (is_variable m p) n) (rank (is_variable m p) c) 0 k))

pub In-append : {X : Type 0} (xs ys : List X) (x : X) → In (xs ++ ys) x → In xs x ⊎ In ys x
In-append [] ys x i = inr i
In-append (z ∷ zs) ys x (inl e) = inl (inl e)
In-append (z ∷ zs) ys x (inr i) = grind (arith, In-append zs ys x i)

pub In-option : {X : Type 0} (o : Option X) (x : X) → In (option_to_list o) x → o ≡ Some x
In-option None x i = absurd i
In-option (Some y) x (inl e) = ap Some e
In-option (Some y) x (inr i) = absurd i

pub some_same : {X : Type 0} {a b : X} → Some a ≡ Some b → a ≡ b
some_same e = grind arith

module _ (m : FlowModel) (p c : ℕ) where
  -- what a branch to a known head among the sources of a cell is: to a constant cell through a face, to the head of an entry, in a transient period to the old head
  abbrev pub IsFixedSource : FixedSource → Type 0
  IsFixedSource (ToConstant f) = In (constant_faces m p c) f
  IsFixedSource (ToGeneral h k) = All (IsEntryValid (most_cells Wide)) (local_entries m p c) → IsHeadNumber h × IsNotNegative k
  IsFixedSource FromStorage = (period_at m p).steady ≡ false

  of_general : (y : Entry) (x : FixedSource) → In (local_entries m p c) y → as_general y ≡ Some x → IsFixedSource x
  of_general (GeneralEntry cell a b) x i e =
      subst IsFixedSource (some_same e)
      (λ valid. let v = In-All (IsEntryValid (most_cells Wide)) (local_entries m p c) (GeneralEntry cell a b) valid i in (v.1, v.2))
  of_general y x i e = absurd (none-some x e)

  of_storage : (steady : Bool) (x : FixedSource) → (period_at m p).steady ≡ steady → cond steady None (Some FromStorage) ≡ Some x → IsFixedSource x
  of_storage true x s e = absurd (none-some x e)
  of_storage false x s e = subst IsFixedSource (some_same e) s

  -- among the sources of a cell, with this source of stored water
  pub source_among : (o : Option FixedSource) → ((x : FixedSource) → o ≡ Some x → storage_at m p ≡ Some x) → (x : FixedSource) →
      In (option_to_list o ++ map ToConstant (constant_faces m p c) ++ filter_map as_general (local_entries m p c)) x → IsFixedSource x
  source_among o stored x i = elim (In-append (option_to_list o ++ map ToConstant (constant_faces m p c)) (filter_map as_general (local_entries m p c)) x i) [
    | inl j ↦ (elim (In-append (option_to_list o) (map ToConstant (constant_faces m p c)) x j) [
      | inl k ↦ of_storage (period_at m p).steady x refl (stored x (In-option o x k))
      | inr k ↦ (let (f, l, e) = map-In ToConstant (constant_faces m p c) x k in subst IsFixedSource e l)
    ])
    | inr j ↦ (let (y, k, e) = filter_map-In as_general (local_entries m p c) x j in of_general y x k e)
  ]

  pub fixed_source : (x : FixedSource) → In (fixed_sources m p c) x → IsFixedSource x
  fixed_source = source_among (storage_at m p) (λ x e. e)

-- A variable cell is active, and a constant one.
positive_active : (z : ℤ) → int_lt (pos 0) z ≡ true → not (unsigned_abs z == 0) ≡ true
positive_active (pos zero) e = e
positive_active (pos (suc n)) e = grind (arith, nat_tests)
positive_active (negsuc n) e = grind (arith, nat_tests)

pub variable_active : (m : FlowModel) (p c : ℕ) → is_variable m p c ≡ true → is_active m c ≡ true
variable_active m p c e = positive_active (int_at m.ibound c) (and_parts (int_lt (pos 0) (int_at m.ibound c)) _ e).0

pub constant_active : (m : FlowModel) (p c : ℕ) → is_constant m p c ≡ true → is_active m c ≡ true
constant_active m p c e = (and_parts (is_active m c) _ e).0

-- The cells that a problem names are active; in a transient period each has a branch to its old head.
pub In-Contains : {X : Type 0} (xs : List X) (x : X) → Contains xs x → In xs x
In-Contains xs x (k, lt, e) = subst (In xs) e (In-get_or xs k x lt)

module _ (m : FlowModel) (s : ℕ) (at : TimeStep) (old : List Bound) (b : Branches) (are : AreBranches m at b) (size : HasSize m.grid) where
  abbrev es : List Entries
  es = step_over m s at old b

  abbrev cell : ℕ → Entries
  cell = cell_over m s at old b

  abbrev sources : ℕ → List FixedSource
  sources = sources_over m s at old b

  -- the cell of an index is a variable cell
  cell_at : (k : ℕ) → k < length es → (c : ℕ) × (is_variable m at.period c ≡ true) × (c < cell_count m.grid) × (cell c ≡ entries_at es k)
  cell_at k lt =
      let (c, i, e) = map-In cell (variable_cells m at.period) (entries_at es k) (In-get_or es k no_entries lt) in
      let (v, r) = variable-In m at.period (cell_count m.grid) c i in
      (c, v, r, e)

  source_active : (c : ℕ) → is_variable m at.period c ≡ true → c < cell_count m.grid → (y : FixedSource) → In (sources c) y → IsActive m (fixed_over m s at old b c y).source
  source_active c v lt (ToConstant f) i =
      let (g, k) = passing_are m.grid (is_constant m at.period) c f (source_among m at.period c b.stored are.stored (ToConstant f) i) in
      record { within = end_within m.grid c f size lt g; active = constant_active m at.period f.end k }
  source_active c v lt (ToGeneral head cond) i = record { within = lt; active = variable_active m at.period c v }
  source_active c v lt FromStorage i = record { within = lt; active = variable_active m at.period c v }

  cells_active : (c : ℕ) → IsCellNamed es c → IsActive m c
  cells_active c (k, lt, inl e) =
      let (d, v, r, is) = cell_at k lt in
      subst (IsActive m) (sym (e ∙ sym (ap (λ (z : Entries). z.id) is))) (record { within = r; active = variable_active m at.period d v })
  cells_active c (k, lt, inr (x, has, e)) =
      let (d, v, r, is) = cell_at k lt in
      let among : In (cell d).fixed x = subst (λ (z : Entries). In z.fixed x) (sym is) (In-Contains (entries_at es k).fixed x has) in
      let (y, i, q) = map-In (fixed_over m s at old b d) (sources d) x among in
      subst (IsActive m) (sym (e ∙ sym (ap (λ (z : Fixed). z.source) q))) (source_active d v r y i)

  pub named_active : (p : List Entries) → p ≡ es → (c : ℕ) → IsCellNamed p c → IsActive m c
  named_active p e c named = cells_active c (subst (λ (q : List Entries). IsCellNamed q c) e named)

-- a confined model has these branches
module _ (m : FlowModel) (s : ℕ) (at : TimeStep) (old : List Bound) where
  storage_among : (c : ℕ) → (period_at m at.period).steady ≡ false → In (fixed_sources m at.period c) FromStorage
  storage_among c e =
      let P : Bool → Type 0 = λ b. In (option_to_list (cond b None (Some FromStorage)) ++ map ToConstant (constant_faces m at.period c) ++ filter_map as_general
      (local_entries m at.period c)) FromStorage in
      subst P (sym e) (inl refl)

  cells_stored : (period_at m at.period).steady ≡ false → HasOldHeads (whole_step m s at old)
  cells_stored steady k lt =
      let es = whole_step m s at old in
      let (c, i, is) = map-In (whole_cell m s at old) (variable_cells m at.period) (entries_at es k) (In-get_or es k no_entries lt) in
      let sources = fixed_sources m at.period c in
      let F = whole_fixed m s at old c in
      let P : Entries → Type 0 = λ z. (x : Fixed) × Contains z.fixed x × (x.kind ≡ Storage) × (x.source ≡ z.id) in
      subst P is (F FromStorage, Contains-In (map F sources) (F FromStorage) (In-map F sources FromStorage (storage_among c steady)), refl, refl)

  pub old_heads : (p : List Entries) → p ≡ whole_step m s at old → (period_at m at.period).steady ≡ false → HasOldHeads p
  old_heads p e steady = subst HasOldHeads (sym e) (cells_stored steady)
