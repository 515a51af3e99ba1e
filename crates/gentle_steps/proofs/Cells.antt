-- The cells of the problems of a step are its variable cells.
use Rattle.gentle_steps.proofs.Common.{◌≡◌, ℕ, ◌<◌, List, length, get_or, map, sym, ap, ◌∙◌, arith, subst, AreWords, heads_on, variable_bounds, IsModel, cell_count, is_variable, variable_cells}
use Rattle.gentle_steps.proofs.Common.{FlowModel, TimeStep, AreGridHeads, bound_at, IsHead, entries_at, no_bound, no_entries, Entries, Bound, Side, ConvertibleLayers, variable_cell, IsAt, variable_at}
use Rattle.gentle_steps.proofs.Common.{head_of, branches_at, IsSideProblem, side_bounds}
use Rattle.std.proofs.lemmas.List.{get_or-map, length-map}
use mathlib.Core.List.{map-map}
use Rattle.problem_builder.proofs.{CellEnclosed.ids_over, Steps.cells_over}

-- the problem of a side has the variable cells
pub side_cells : (m : FlowModel) (w : ConvertibleLayers) (s : ℕ) (at : TimeStep) (listed : List Bound) (side : Side) (p : List Entries) →
    IsSideProblem m w s at listed side p → map (λ e. e.id) p ≡ variable_cells m at.period
side_cells m w s at listed side p e =
    let heads = side_bounds m at listed side in
    ids_over m s at heads (branches_at m w heads s) p (cells_over m s at heads (branches_at m w heads s) p e)

module _ (m : FlowModel) (at : TimeStep) (valid : IsModel m) (p : List Entries) (cells : map (λ e. e.id) p ≡ variable_cells m at.period) where
  pub problem_length : length p ≡ length (variable_cells m at.period)
  problem_length = sym (length-map p (λ (e : Entries). e.id)) ∙ ap length cells

  pub id_is : (i : ℕ) → i < length p → (entries_at p i).id ≡ variable_cell m at.period i
  id_is i lt = sym (get_or-map (λ (e : Entries). e.id) p i no_entries 0 lt) ∙ ap (λ xs. get_or xs i 0) cells

  -- the cell of an index is a variable cell of the grid
  pub variable_place : (i : ℕ) → i < length p → IsAt (is_variable m at.period) (cell_count m.grid) i (entries_at p i).id
  variable_place i lt = subst (IsAt (is_variable m at.period) (cell_count m.grid) i) (sym (id_is i lt)) (variable_at m at valid.grid.size i (omega (arith, lt, problem_length)))

  module _ (listed : List Bound) (grid : AreGridHeads m listed) where
    -- the listed bounds of the problem's cells are those of the variable cells
    pub words_are : map (λ e. bound_at listed e.id) p ≡ variable_bounds m at listed
    words_are = sym (map-map (bound_at listed) (λ (e : Entries). e.id) p) ∙ ap (map (bound_at listed)) cells

    head_at : (i : ℕ) → i < length p → bound_at (variable_bounds m at listed) i ≡ bound_at listed (variable_cell m at.period i)
    head_at i lt = get_or-map (bound_at listed) (variable_cells m at.period) i 0 no_bound (omega (arith, lt, problem_length))

    range_at : (i : ℕ) → i < length p → IsHead (bound_at (variable_bounds m at listed) i).low × IsHead (bound_at (variable_bounds m at listed) i).high
    range_at i lt =
        let at_place = variable_at m at valid.grid.size i (omega (arith, lt, problem_length)) in
        let P : Bound → Type 0 = λ b. IsHead b.low × IsHead b.high in
        subst P (sym (head_at i lt)) (grid.range (variable_cell m at.period i) no_bound (omega (arith, at_place.within, grid.whole)))

    pub are_words : AreWords p (variable_bounds m at listed)
    are_words = record {
      whole = length-map (variable_cells m at.period) (bound_at listed) ∙ sym problem_length;
      low = (λ i lt. (range_at i lt).0);
      high = (λ i lt. (range_at i lt).1);
    }

    pub heads_are : (side : Side) (i : ℕ) → i < length (variable_cells m at.period) → heads_on side (variable_bounds m at listed) i ≡ heads_on side listed (variable_cell m at.period i)
    heads_are side i lt = ap (λ (b : Bound). head_of side b) (get_or-map (bound_at listed) (variable_cells m at.period) i 0 no_bound lt)

-- bounds of one problem's cells are those of another one that has the same cells
pub other_words : (p q : List Entries) (cells : List ℕ) (xs : List Bound) → map (λ e. e.id) p ≡ cells → map (λ e. e.id) q ≡ cells → AreWords p xs → AreWords q xs
other_words p q cells xs e f h =
    let id = λ (x : Entries). x.id in
    let same : length q ≡ length p = omega (arith, length-map p id, length-map q id, ap length e, ap length f) in
    record {
      whole = omega (arith, h.whole, same);
      low = (λ c lt. h.low c (omega (arith, lt, same)));
      high = (λ c lt. h.high c (omega (arith, lt, same)));
    }
