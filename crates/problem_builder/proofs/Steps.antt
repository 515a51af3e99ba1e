-- The loop over the cells of the grid, a step at a time.
use Rattle.problem_builder.proofs.Common.{zero, Option, In, filter_map-In, none-some, option_map, HasNoProblem, fault_of, Cell, Low, Some, cases_order, cons_option, filter_map, filter_map-append, inl}
use Rattle.problem_builder.proofs.Common.{inr, map, refl, Err, IsProblemOf, Ok, Result, AreCellsOver, Branches, IsFaultOver, IsProblemOver, cell_over, model_branches, step_over, problem_of}
use Rattle.problem_builder.proofs.Common.{refusal_of, unless_refused, whole_step, ◌≡◌, ℕ, suc, ◌+◌, ◌<◌, Bool, true, false, None, List, [], ◌∷◌, ◌++◌, sym, ap, ◌∙◌, arith, Bound, Entries, FlowModel}
use Rattle.problem_builder.proofs.Common.{TimeStep, cell_count, is_variable, variable_below, passes_next, fails_next, below_is, AreCells, IsCellFault, map-append, NoBound, BoundFault, Memory}
use Rattle.step_problem.specs.declared.refusal.BoundFault.TheVariants.{NoBound as Refused}

module _ (m : FlowModel) (s : ℕ) (at : TimeStep) (old : List Bound) (b : Branches) where
  abbrev cell : ℕ → Entries
  cell = cell_over m s at old b

  abbrev Are : ℕ → List Entries → Type 0
  Are = AreCellsOver m s at old b

  abbrev test : ℕ → Bool
  test = is_variable m at.period

  abbrev below : ℕ → List ℕ
  below = variable_below m at.period

  -- the cells up to a variable one, and up to another
  below_more : (c : ℕ) → test c ≡ true → below (suc c) ≡ below c ++ c ∷ []
  below_more c v = below_is m at.period (suc c) ∙ passes_next test c v ∙ ap (λ xs. xs ++ c ∷ []) (sym (below_is m at.period c))

  below_same : (c : ℕ) → test c ≡ false → below (suc c) ≡ below c
  below_same c v = below_is m at.period (suc c) ∙ fails_next test c v ∙ sym (below_is m at.period c)

  next : (c : ℕ) → c + 1 ≡ suc c
  next c = omega arith

  pub no_cells : Are 0 []
  no_cells = record { each = sym (ap (map cell) (below_is m at.period 0)); sound = refl }

  pub next_cell : (c : ℕ) (es new : List Entries) (e : Entries) → test c ≡ true → new ≡ es ++ e ∷ [] → e ≡ cell c → refusal_of e ≡ None → Are c es → Are (c + 1) new
  next_cell c es new e v same is sound are = record {
    each = same ∙ (λ t. are.each t ++ is t ∷ []) ∙ sym (ap (map cell) (ap below (next c) ∙ below_more c v) ∙ map-append cell (below c) (c ∷ []));
    sound = ap (filter_map refusal_of) same ∙ filter_map-append refusal_of es (e ∷ []) ∙ (λ t. are.sound t ++ cons_option (sound t) []);
  }

  pub next_none : (c : ℕ) (es : List Entries) → test c ≡ false → Are c es → Are (c + 1) es
  next_none c es v are = record { each = are.each ∙ sym (ap (map cell) (ap below (next c) ∙ below_same c v)); sound = are.sound }

  -- All cells are the problem, and the refusal of a cell after cells that have none is the first one.
  pub all_cells : (p : List Entries) → Are (cell_count m.grid) p → IsProblemOver m s at old b p
  all_cells p are = (λ t. unless_refused ((ap (filter_map refusal_of) (sym are.each) ∙ are.sound) t) (step_over m s at old b)) ∙ ap Ok (sym are.each)

  refused_first : (c : ℕ) (fault : NoBound) → test c ≡ true → refusal_of (cell c) ≡ Some fault → filter_map refusal_of (map cell (below c)) ≡ [] → (n : ℕ) →
      c < n → (ns : List NoBound) × (filter_map refusal_of (map cell (below n)) ≡ fault ∷ ns)
  refused_first c fault v is none zero lt = absurd (omega (arith, lt))
  refused_first c fault v is none (suc n) lt =
      elim (cases_order c n) [
        | inl same ↦ (
          [],
          ap (λ k. filter_map refusal_of (map cell (below (suc k)))) (sym same) ∙ added c v ∙ (λ t. none t ++ cons_option (is t) []),
        )
        | inr (inl less) ↦ (let (ns, e) = refused_first c fault v is none n less in further n ns e (test n) refl)
        | inr (inr more) ↦ absurd (omega (arith, lt, more))
      ]
    where
      added : (k : ℕ) → test k ≡ true → filter_map refusal_of (map cell (below (suc k))) ≡ filter_map refusal_of (map cell (below k)) ++ cons_option (refusal_of (cell k)) []
      added k v = ap (filter_map refusal_of) (ap (map cell) (below_more k v) ∙ map-append cell (below k) (k ∷ [])) ∙ filter_map-append refusal_of (map cell (below k)) (cell k ∷ [])

      further : (k : ℕ) (ns : List NoBound) → filter_map refusal_of (map cell (below k)) ≡ fault ∷ ns → (passes : Bool) → test k ≡ passes → (more : List NoBound) ×
          (filter_map refusal_of (map cell (below (suc k))) ≡ fault ∷ more)
      further k ns e true v = (ns ++ cons_option (refusal_of (cell k)) [], added k v ∙ ap (λ xs. xs ++ cons_option (refusal_of (cell k)) []) e)
      further k ns e false v = (ns, ap (λ xs. filter_map refusal_of (map cell xs)) (below_same k v) ∙ e)

  pub first_fault : (c : ℕ) (es : List Entries) (fault : BoundFault) → c < cell_count m.grid → test c ≡ true → IsCellFault (cell c) fault → Are c es → IsFaultOver m s at old b fault
  first_fault c es Memory lt v k are = tt
  first_fault c es (Refused fault) lt v k are =
      let (ns, e) = refused_first c fault v k (ap (filter_map refusal_of) (sym are.each) ∙ are.sound) (cell_count m.grid) lt in
      ap (λ xs. unless_refused xs (step_over m s at old b)) e

-- a problem is all cells, and none has a refusal
abbrev value_or : List Entries → Result (List Entries) NoBound → List Entries
value_or d (Ok p) = p
value_or d (Err n) = d

pub unless_parts : (ns : List NoBound) (es p : List Entries) → unless_refused ns es ≡ Ok p → (p ≡ es) × (ns ≡ [])
unless_parts [] es p e = (sym (ap (value_or []) e), refl)
unless_parts (n ∷ ns) es p e = absurd cc

pub cells_over : (m : FlowModel) (s : ℕ) (at : TimeStep) (old : List Bound) (b : Branches) (p : List Entries) → IsProblemOver m s at old b p →
    AreCellsOver m s at old b (cell_count m.grid) p
cells_over m s at old b p e =
    let (is, none) = unless_parts (filter_map refusal_of (step_over m s at old b)) (step_over m s at old b) p e in
    record { each = is; sound = ap (filter_map refusal_of) is ∙ none }

pub cells_of : (m : FlowModel) (s : ℕ) (at : TimeStep) (old : List Bound) (p : List Entries) → IsProblemOf m s at old p → AreCells m s at old (cell_count m.grid) p
unfolding problem_of
cells_of m s at old = cells_over m s at old (model_branches m s at)

-- A result is one problem or one refusal.
pub same_problem : {r : Result (List Entries) NoBound} {p q : List Entries} → r ≡ Ok p → r ≡ Ok q → p ≡ q
same_problem h k = ap (value_or []) (sym h ∙ k)

abbrev refusal_or : NoBound → Result (List Entries) NoBound → NoBound
refusal_or d (Ok p) = d
refusal_or d (Err n) = n

pub same_refusal : {r : Result (List Entries) NoBound} {n k : NoBound} → r ≡ Err n → r ≡ Err k → n ≡ k
same_refusal {n = n} h k = ap (refusal_or n) (sym h ∙ k)

pub not_refused : {r : Result (List Entries) NoBound} {p : List Entries} {n : NoBound} → r ≡ Ok p → r ≡ Err n → ⊥
not_refused h k = absurd (let e = sym h ∙ k in cc)

-- a refusal is that of a cell
among : (ns : List NoBound) (es : List Entries) (n : NoBound) → unless_refused ns es ≡ Err n → In ns n
among [] es n e = absurd cc
among (k ∷ ns) es n e = inl (ap (refusal_or k) e)

fault_from : (e : Entries) (n : NoBound) (o : Option ℕ) → fault_of e ≡ o → option_map (λ code. record { code = code; place = Cell e.id Low }) o ≡ Some n → fault_of e ≡ Some n.code
fault_from e n None is h = absurd (none-some n h)
fault_from e n (Some k) is h = is ∙ ap (option_map (λ (z : NoBound). z.code)) h

pub a_refusal : (m : FlowModel) (s : ℕ) (at : TimeStep) (old : List Bound) (n : NoBound) → HasNoProblem m s at old n → (e : Entries) × (fault_of e ≡ Some n.code)
unfolding problem_of
a_refusal m s at old n h =
    let (e, i, is) = filter_map-In refusal_of (whole_step m s at old) n (among (filter_map refusal_of (whole_step m s at old)) (whole_step m s at old) n h) in
    (e, fault_from e n (fault_of e) refl is)
