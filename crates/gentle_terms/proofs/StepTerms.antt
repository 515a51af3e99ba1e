-- The terms of a step, and those of a history.
use Rattle.gentle_terms.proofs.Common.{◌≡◌, ℕ, ◌<◌, List, [], ◌∷◌, All, length, sym, subst, arith, Fraction, fraction_total, exact_part, InOrder, FlowModel, TimeStep, Dir, Term, OwnFlowsAreAtMost}
use Rattle.gentle_terms.proofs.Common.{convertible_cell, convertible_step, ConvertibleLayers, Bool, true, false, cond, ℤ, ExactCell, cell_at, total_below, Storage, IsModel, start_head, times}
use Rattle.gentle_terms.proofs.Common.{variable_cells, is_term, ListedPair, heads_at, listed_heads, storage_flow, variable_cell, FlowsLieFrom, HistoryTermsLieBetween, TermsAreInOrder, TermsLieFrom}
use Rattle.gentle_terms.proofs.Common.{stored_term}
use Rattle.water_enclosure.proofs.{Histories.signs_enclose_flows, Linked.cell_is, Linked.step_length}
use Rattle.gentle_terms.proofs.{CellTerms.parts_order, Parts.below_order, Parts.total_order}
unfoldable use Rattle.budget_bounds.specs.{exact_singles, exact_term}
unfoldable use Rattle.gentle_terms.specs.{water_term}

module _ (m : FlowModel) (w : ConvertibleLayers) (at : TimeStep) (old h older g : ℕ → Fraction) (dir : Dir) (valid : IsModel m)
    (own : All (OwnFlowsAreAtMost m w at old h older g) (variable_cells m at.period)) where
  abbrev step : (ℕ → Fraction) → List ExactCell
  step f = convertible_step m w at f

  abbrev by_index : (ℕ → Fraction) → ℕ → Fraction
  by_index f k = f (variable_cell m at.period k)

  module _ (t : Term) where
    abbrev part_at : (ℕ → Fraction) → ℕ → Fraction
    part_at f i = fraction_total (exact_part dir) (exact_singles t (cell_at (step f) i) (by_index f i))

    at_index : (i : ℕ) → i < length (variable_cells m at.period) → InOrder dir (part_at h i) (part_at g i)
    at_index i lt =
        let c = variable_cell m at.period i in
        let this = parts_order m w at c old h older g (own i 0 lt) dir t in
        let P : ExactCell → ExactCell → Type 0 = λ x y. InOrder dir (fraction_total (exact_part dir) (exact_singles t x (h c))) (fraction_total (exact_part dir) (exact_singles t y (g c))) in
        subst (λ x. P x (cell_at (step g) i)) (sym (cell_is m at valid.grid.size w h i (omega (arith, lt, step_length m at valid.grid.size w h))))
        (subst (P (convertible_cell m w at h c)) (sym (cell_is m at valid.grid.size w g i (omega (arith, lt, step_length m at valid.grid.size w g)))) this)

    exact_order : InOrder dir (exact_term (step h) (by_index h) dir t) (exact_term (step g) (by_index g) dir t)
    unfolding exact_term
    exact_order =
        let n = length (step h) in
        let same : length (step g) ≡ n = omega (arith, step_length m at valid.grid.size w h, step_length m at valid.grid.size w g) in
        let P : ℕ → Type 0 = λ k. InOrder dir (total_below n (part_at h)) (total_below k (part_at g)) in
        subst P (sym same) (below_order dir n (part_at h) (part_at g) (λ i lt. at_index i (omega (arith, lt, step_length m at valid.grid.size w h))))

  abbrev stored : (ℕ → Fraction) → (ℕ → Fraction) → ℕ → Fraction
  stored before f c = storage_flow m w at.period at.step c (before c) (f c)

  stored_order : InOrder dir (stored_term m w at old h dir) (stored_term m w at older g dir)
  stored_order = total_order dir (stored old h) (stored older g) (variable_cells m at.period) (λ i d lt. (own i d lt).storage)

  by_term : (b : Bool) (t : Term) → InOrder dir (cond b (stored_term m w at old h dir) (exact_term (step h) (by_index h) dir t))
      (cond b (stored_term m w at older g dir) (exact_term (step g) (by_index g) dir t))
  by_term true t = stored_order
  by_term false t = exact_order t

  terms_order : (t : Term) → InOrder dir (water_term m w at old h dir t) (water_term m w at older g dir t)
  unfolding water_term
  terms_order t = by_term (is_term t Storage) t

pub terms_are_in_order : TermsAreInOrder
terms_are_in_order m w at old h older g dir t valid own = terms_order m w at old h older g dir valid own t

module _ (m : FlowModel) (w : ConvertibleLayers) (d : ℕ) (valid : IsModel m) where
  lie_from : (old_low old old_high : ℕ → Fraction) (ats : List TimeStep) (Xs : List (ℕ → ℤ)) (pairs : List ListedPair) →
      FlowsLieFrom m w d old_low old old_high ats Xs pairs → TermsLieFrom m w d old_low old old_high ats Xs pairs
  lie_from old_low old old_high [] [] [] f = tt
  lie_from old_low old old_high (at ∷ ats) (X ∷ Xs) (pair ∷ pairs) f =
      let here = f.0 in (
        (λ dir t. record {
          upper_heads = terms_are_in_order m w at old_low (listed_heads m at pair.high) old (heads_at m at d X) dir t valid (λ i e lt. (here i e lt).least);
          lower_heads = terms_are_in_order m w at old (heads_at m at d X) old_high (listed_heads m at pair.low) dir t valid (λ i e lt. (here i e lt).most);
        }),
        lie_from (listed_heads m at pair.low) (heads_at m at d X) (listed_heads m at pair.high) ats Xs pairs f.1,
      )
  lie_from old_low old old_high [] [] (pair ∷ pairs) f = absurd f
  lie_from old_low old old_high [] (X ∷ Xs) pairs f = absurd f
  lie_from old_low old old_high (at ∷ ats) [] pairs f = absurd f
  lie_from old_low old old_high (at ∷ ats) (X ∷ Xs) [] f = absurd f

pub history_terms_lie_between : HistoryTermsLieBetween
history_terms_lie_between unit m w pairs d Xs valid signs solves =
    lie_from m w d valid (start_head m) (start_head m) (start_head m) (times m) Xs pairs (signs_enclose_flows unit m w pairs d Xs valid signs solves)
