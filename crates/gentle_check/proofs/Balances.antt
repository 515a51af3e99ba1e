-- The balances of a step at listed heads enclose the exact ones.
use Rattle.gentle_check.proofs.Common.{◌≡◌, ℕ, ◌+◌, ◌^◌, ◌<◌, true, List, length, subst, sym, arith, All, ℤ, ints, EnclosesSigned, Fraction, CellEncloses, EnclosesStep, ExactCell, ExactLink, cell_at}
use Rattle.gentle_check.proofs.Common.{no_cell, share, plus_encloses, High, Low, Entries, balance, entries_at, no_entries, IsModel, is_variable, variable_cells, All-In, In-All, convertible_cell}
use Rattle.gentle_check.proofs.Common.{convertible_step, listed_heads, variable_cell, BalancesEnclose, one_head, ◌∙◌, ap, get_or, storage_flow}
use Rattle.cell_balance.specs.{balance as exact_balance}
use Rattle.cell_balance.proofs.Zips.{AllZip-at, AllZip-length}
use Rattle.model_types.specs.{declared.model.FlowModel.FlowModel, declared.time_steps.TimeStep.TimeStep}
use Rattle.problem_builder.specs.{IsActive, bound_at}
use Rattle.problem_builder.proofs.{Members.variable_active, CellEnclosed.ids_over, Steps.cells_over}
use Rattle.water_table.specs.declared.convertible_layers.ConvertibleLayers.{ConvertibleLayers}
use Rattle.water_enclosure.proofs.{Order.variable_at_head, Linked.are_linked, Linked.cell_is, Linked.step_length, Linked.variable_at}
use Rattle.water_storage.proofs.Flows.{stored_flows_enclose}
use Rattle.std.proofs.lemmas.List.{get_or-map}
use Rattle.gentle_problem.proofs.Enclosed.{problems_enclose}
use Rattle.gentle_problem.specs.{branches_at}
use Rattle.water_storage.specs.{stored_flow}
use Rattle.gentle_check.proofs.Sums.{IsKnown, cell_balance_encloses}

-- a variable cell has its listed head
listed_head : (m : FlowModel) (at : TimeStep) (x : ℕ → ℤ) (c : ℕ) → is_variable m at.period c ≡ true → listed_heads m at x c ≡ share (10 ^ 9) (x c)
listed_head m at x c v = variable_at_head m at (10 ^ 9) x c v

-- a whole head encloses itself
pub own_bounds : (z : ℤ) → EnclosesSigned z z 9 (share (10 ^ 9) z)
own_bounds z = record { lower = omega (arith, ints); upper = omega (arith, ints) }

module _ (m : FlowModel) (w : ConvertibleLayers) (s : ℕ) (at : TimeStep) (p : List Entries) (x H : ℕ → ℤ) (valid : IsModel m)
    (encloses : EnclosesStep s p (convertible_step m w at (listed_heads m at x)))
    (are : (i : ℕ) → i < length (variable_cells m at.period) → H i ≡ x (variable_cell m at.period i)) where
  abbrev h : ℕ → Fraction
  h = listed_heads m at x

  abbrev step : List ExactCell
  step = convertible_step m w at h

  -- the exact heads by index
  abbrev by_index : ℕ → Fraction
  by_index k = h (variable_cell m at.period k)

  known : (k : ℕ) → k < length (variable_cells m at.period) → EnclosesSigned (H k) (H k) 9 (by_index k)
  known k lt =
      let c = variable_cell m at.period k in
      let head = listed_head m at x c (variable_at m at valid.grid.size k lt).passes in
      subst (λ (z : ℤ). EnclosesSigned z z 9 (h c)) (sym (are k lt)) (subst (EnclosesSigned (x c) (x c) 9) (sym head) (own_bounds (x c)))

  count : length p ≡ length step
  count = AllZip-length (CellEncloses s) p step encloses.cells

  module _ (i : ℕ) (lt : i < length (variable_cells m at.period)) where
    abbrev c : ℕ
    c = variable_cell m at.period i

    within : i < length step
    within = omega (arith, lt, step_length m at valid.grid.size w h)

    -- the other ends of the links are variable cells
    ends_known : All (IsKnown s (by_index i) (H i) (known i lt) by_index H) (cell_at step i).links
    ends_known = All-In _ (cell_at step i).links (λ y j.
        let range = In-All (λ (z : ExactLink). z.cell < length step) (cell_at step i).links y ((are_linked m at valid.grid.size w h).range i within) j in
        known y.cell (omega (arith, range, step_length m at valid.grid.size w h)))

    without_storage : EnclosesSigned (balance Low (entries_at p i) (H i) H) (balance High (entries_at p i) (H i) H) (s + 9)
        (exact_balance (convertible_cell m w at h c) (h c) by_index)
    without_storage =
        let cell = AllZip-at (CellEncloses s) p step i no_entries no_cell encloses.cells (omega (arith, within, count)) in
        let P : ExactCell → Type 0 = λ e. EnclosesSigned (balance Low (entries_at p i) (H i) H) (balance High (entries_at p i) (H i) H) (s + 9) (exact_balance e (h c) by_index) in
        subst P (cell_is m at valid.grid.size w h i within)
        (cell_balance_encloses s (by_index i) (H i) (known i lt) by_index H (entries_at p i) (cell_at step i) cell ends_known)

pub balances_enclose : BalancesEnclose
balances_enclose m w s at p heads old x H before i valid yields time side lt =
    let step = problems_enclose m w s at heads (listed_heads m at x) p valid time side.ordered side.within side.problem in
    let at_place = variable_at m at valid.grid.size i lt in
    let c = variable_cell m at.period i in
    let here : IsActive m c = record { within = at_place.within; active = variable_active m at.period c at_place.passes } in
    let inside : i < length p = omega (arith, lt, count m w s at p x H valid step side.heads_are, step_length m at valid.grid.size w (listed_heads m at x)) in
    let ids = ids_over m s at heads (branches_at m w heads s) p (cells_over m s at heads (branches_at m w heads s) p side.problem) in
    let id : (entries_at p i).id ≡ c = sym (get_or-map (λ (e : Entries). e.id) p i no_entries 0 inside) ∙ ap (λ xs. get_or xs i 0) ids in
    let stored : (d : ℕ) → d ≡ c → EnclosesSigned (stored_flow m w s at d Low (bound_at old d) (one_head (H i))) (stored_flow m w s at d High (bound_at old d) (one_head (H i)))
    (s + 9) (storage_flow m w at.period at.step c (before c) (listed_heads m at x c)) =
    λ d e. subst (λ (k : ℕ). EnclosesSigned (stored_flow m w s at k Low (bound_at old k) (one_head (H i))) (stored_flow m w s at k High (bound_at old k) (one_head (H i)))
    (s + 9) (storage_flow m w at.period at.step c (before c) (listed_heads m at x c))) (sym e)
    (stored_flows_enclose m w s at c (bound_at old c) (one_head (H i)) (before c) (listed_heads m at x c) valid yields time here (side.stored i lt)
    (side.old_within c here) (known m w s at p x H valid step side.heads_are i lt)) in
    plus_encloses _ _ _ _ (s + 9) _ _ (without_storage m w s at p x H valid step side.heads_are i lt) (stored (entries_at p i).id id)
