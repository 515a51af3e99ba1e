-- Kinds of cells by their tests, indices of variable cells, and the range of a step's heads.
use Rattle.step_chain.proofs.Common.{◌≡◌, ℕ, ◌<◌, inl, inr, true, false, List, length, get_or, sym, ap, ◌∙◌, subst, arith, ℤ, cases_Bool, and_parts, false_from_ne_true, not-true, true≢false, Bound}
use Rattle.step_chain.proofs.Common.{IsHead, no_bound, lower_at, upper_at, AreWords, Entries, FlowModel, TimeStep, cell_count, is_active, is_variable, is_constant, index_of, variable_cells, map}
use Rattle.step_chain.proofs.Common.{Decks, IsConstantPairFor, AreGridHeads, bound_at, AreHeadsOf, ◌&&◌, not, ints, ExactCell, cell_at, no_cell, ◌+◌, ◌≤◌, cond, set, cases_order, kind_of}
use Rattle.step_chain.proofs.Common.{HasConstantHeadFor, variable_active, constant_active}
use Rattle.std.proofs.lemmas.List.{get_or_default, get_or-map, length-map, length-set, get_or-set_same, get_or-set_other}
use Rattle.model_types.proofs.Ranks.{passing, rank_below, at_rank}
use Rattle.flow_equations.proofs.Links.{below_is, index_is}
use Rattle.model_types.specs.declared.given_heads.Kind.TheVariants.{NoFlow, Constant, Variable}

-- Kinds of cells by their tests.

module _ (m : FlowModel) (p c : ℕ) where
  pub constant_not_variable : is_constant m p c ≡ true → is_variable m p c ≡ false
  constant_not_variable e = not-true (is_variable m p c) (and_parts (is_active m c) (not (is_variable m p c)) e).1

  -- an active cell that isn't variable is constant
  pub active_constant : is_active m c ≡ true → is_variable m p c ≡ false → is_constant m p c ≡ true
  active_constant e f = ap (λ active. active && not (is_variable m p c)) e ∙ ap not f

  pub idle_not_variable : is_active m c ≡ false → is_variable m p c ≡ false
  idle_not_variable e = false_from_ne_true (is_variable m p c) (λ v. true≢false (sym (variable_active m p c v) ∙ e))

  pub idle_not_constant : is_active m c ≡ false → is_constant m p c ≡ false
  idle_not_constant e = false_from_ne_true (is_constant m p c) (λ k. true≢false (sym (constant_active m p c k) ∙ e))

-- The index of a variable cell.

pub index_below : (m : FlowModel) (p c : ℕ) → is_variable m p c ≡ true → c < cell_count m.grid → index_of m p c < length (variable_cells m p)
index_below m p c v lt = omega (arith, index_is m p c, ap length (below_is m p (cell_count m.grid)), rank_below (is_variable m p) c (cell_count m.grid) v lt)

-- as many cells as there are variable ones, whose numbers they have
pub count_of : (m : FlowModel) (p : ℕ) (e : List ExactCell) → map (λ x. x.id) e ≡ variable_cells m p → length e ≡ length (variable_cells m p)
count_of m p e ids = sym (length-map e (λ (x : ExactCell). x.id)) ∙ ap length ids

-- the cell of its index is the cell
pub number_of : (m : FlowModel) (p c : ℕ) (e : List ExactCell) → map (λ x. x.id) e ≡ variable_cells m p → is_variable m p c ≡ true → c < cell_count m.grid →
    (cell_at e (index_of m p c)).id ≡ c
number_of m p c e ids v lt =
    let inside : index_of m p c < length e = omega (arith, count_of m p e ids, index_below m p c v lt) in
    sym (get_or-map (λ (x : ExactCell). x.id) e (index_of m p c) no_cell 0 inside)
    ∙ ap (λ cs. get_or cs (index_of m p c) 0) (ids ∙ below_is m p (cell_count m.grid))
    ∙ ap (λ k. get_or (passing (is_variable m p) (cell_count m.grid)) k 0) (index_is m p c)
    ∙ at_rank (is_variable m p) (cell_count m.grid) c v lt

-- The heads of a step are heads of all cells, in range.

abbrev AreHeads : Bound → Type 0
AreHeads b = IsHead b.low × IsHead b.high

none_fits : AreHeads no_bound
none_fits = (record { above = omega (arith, ints); below = omega (arith, ints) }, record { above = omega (arith, ints); below = omega (arith, ints) })

module _ (d : Decks) (at : TimeStep) (p : List Entries) (bounds heads : List Bound) (are : AreHeadsOf d at bounds heads) (words : AreWords p bounds)
    (many : length p ≡ length (variable_cells d.first at.period))
    (fit : (c : ℕ) (lo hi : ℤ) → c < cell_count d.first.grid → is_constant d.first at.period c ≡ true → IsConstantPairFor d at c lo hi → IsHead lo × IsHead hi) where
  each_fits : (c : ℕ) → c < cell_count d.first.grid → AreHeads (bound_at heads c)
  each_fits c lt = elim (cases_Bool (is_variable d.first at.period c)) [
    | inl v ↦ (let inside : index_of d.first at.period c < length p = omega (arith, many, index_below d.first at.period c v lt) in
        subst AreHeads (sym (are.variable c lt v)) (words.low (index_of d.first at.period c) inside, words.high (index_of d.first at.period c) inside))
    | inr v ↦ (elim (cases_Bool (is_active d.first c)) [
      | inl a ↦ (let k = active_constant d.first at.period c a v in fit c (lower_at heads c) (upper_at heads c) lt k (are.constant c lt k))
      | inr a ↦ subst AreHeads (sym (are.no_flow c lt a)) none_fits
    ])
  ]

  pub heads_in_range : AreGridHeads d.first heads
  heads_in_range = record {
    whole = are.whole;
    range = λ k b lt. subst AreHeads (get_or_default heads k no_bound b lt) (each_fits k (omega (arith, lt, are.whole)));
  }

-- The heads of all cells, filled in place: those of the variable cells among the constant heads of a time.
pub kind_variable : (m : FlowModel) (p c : ℕ) → is_variable m p c ≡ true → kind_of m p c ≡ Variable
kind_variable m p c e = ap (λ v. cond v Variable (cond (is_constant m p c) Constant NoFlow)) e

-- the variable cells among the first n have their bounds, all other cells their constant heads
pub record IsPartly (d : Decks) (at : TimeStep) (bounds heads : List Bound) (n : ℕ) : Type 0 where
  pub whole : length heads ≡ cell_count d.first.grid
  pub variable : (c : ℕ) → c < n → is_variable d.first at.period c ≡ true → bound_at heads c ≡ bound_at bounds (index_of d.first at.period c)
  pub other : (c : ℕ) → c < cell_count d.first.grid → is_variable d.first at.period c ≡ false → HasConstantHeadFor d at c (bound_at heads c)

module _ (d : Decks) (at : TimeStep) (bounds heads : List Bound) where
  pub partly_other : (n : ℕ) → (is_variable d.first at.period n ≡ true → ⊥) → IsPartly d at bounds heads n → IsPartly d at bounds heads (n + 1)
  partly_other n not_variable h = record {
    whole = h.whole;
    variable = λ c lt v. elim (cases_order c n) [
      | inl same ↦ (let P : ℕ → Type 0 = λ k. is_variable d.first at.period k ≡ true in absurd (not_variable (subst P same v)))
      | inr (inl less) ↦ h.variable c less v
      | inr (inr more) ↦ absurd (omega (arith, lt, more))
    ];
    other = h.other;
  }

  pub partly_variable : (n : ℕ) (b : Bound) → n < cell_count d.first.grid → is_variable d.first at.period n ≡ true → b ≡ bound_at bounds (index_of d.first at.period n) →
      IsPartly d at bounds heads n → IsPartly d at bounds (set heads n b) (n + 1)
  partly_variable n b inside here is h = record {
    whole = length-set heads n b ∙ h.whole;
    variable = λ c lt v. elim (cases_order c n) [
      | inl same ↦ (let P : ℕ → Type 0 = λ k. bound_at (set heads n b) k ≡ bound_at bounds (index_of d.first at.period k) in
          subst P (sym same) (get_or-set_same heads n b no_bound (omega (arith, inside, h.whole)) ∙ is))
      | inr (inl less) ↦ get_or-set_other heads n c b no_bound (λ same. omega (arith, same, less)) ∙ h.variable c less v
      | inr (inr more) ↦ absurd (omega (arith, lt, more))
    ];
    other = λ c lt v.
        let H : Bound → Type 0 = HasConstantHeadFor d at c in
        let P : ℕ → Type 0 = λ k. is_variable d.first at.period k ≡ false in
        subst H (sym (get_or-set_other heads n c b no_bound (λ same. true≢false (sym here ∙ subst P same v)))) (h.other c lt v);
  }

  pub all_filled : (n : ℕ) → cell_count d.first.grid ≤ n → IsPartly d at bounds heads n → AreHeadsOf d at bounds heads
  all_filled n past h = record {
    whole = h.whole;
    variable = λ c lt v. h.variable c (omega (arith, lt, past)) v;
    constant = λ c lt k. (h.other c lt (constant_not_variable d.first at.period c k)).constant k;
    no_flow = λ c lt idle. (h.other c lt (idle_not_variable d.first at.period c idle)).other (idle_not_constant d.first at.period c idle);
  }
