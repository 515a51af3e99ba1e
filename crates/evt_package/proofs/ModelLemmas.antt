-- What evaporates from a model with evapotranspiration is in limits.
use Rattle.evt_package.proofs.Common.{◌≡◌, ◌⊎◌, inl, inr, ℕ, ◌-◌, ◌<◌, ◌≤◌, ℤ, Bool, true, false, not, cond, ◌&&◌, ◌==◌, List, [], All, Option, Some, None, Ok, length, refl, arith, suc, ◌+◌, ◌*◌}
use Rattle.evt_package.proofs.Common.{cases_lt, mod_below, Grid, FlowModel, cell_count, layer_size, place_in_layer, HasSize, EvapSource, is_active, is_chosen, IsEvapValid, evap_sources, no_period}
use Rattle.evt_package.proofs.Common.{period_at, int_at, is_nonzero, size_some, cell_tested, column_step, column_tested, columns_tested, source, evap_fault, area_in, evaporation_arrays}
use Rattle.evt_package.proofs.Common.{highest_active, each_step}
use Rattle.period_arrays.specs.{HasArrays}
use Rattle.std.specs.Option.{option_to_list}
use Rattle.std.proofs.{lemmas.List.Elements.All-nil, lemmas.List.Elements.All-cons, lemmas.List.get_or_past, Math.Nat.mul-le-mul_right}
use Rattle.outside.specs.declared.codes.Code.{Code}
use Rattle.model_types.specs.declared.period.Stresses.{Stresses}
use Rattle.number_limits.proofs.Canonical.{dec_at_is}
use Rattle.evt_package.proofs.{ChosenLemmas.chosen_is, EvapLemmas.source_sound}

passed_is : (file : List ℕ) (grid : Grid) (c : ℕ) (o : Option Code) → cell_tested file grid c o ≡ Ok tt → o ≡ None
passed_is file grid c None h = refl
passed_is file grid c (Some code) h = absurd cc

-- at a cell that evaporates, by the stresses of its period
module _ (m : FlowModel) (c : ℕ) (size : HasSize m.grid) (lt : c < cell_count m.grid) (active : is_active m c ≡ true) (s : Stresses) where
  abbrev at_cell : EvapSource
  at_cell = source (area_in s) (place_in_layer m.grid c)

  no_fault : HasArrays evaporation_arrays m.grid m.ibound m.nevtop (area_in s) → is_chosen m m.nevtop s.ievt c ≡ true → evap_fault at_cell ≡ None
  unfolding columns_tested
  no_fault has chosen =
      let low : place_in_layer m.grid c < layer_size m.grid = mod_below c (layer_size m.grid) (size_some m.grid size) in
      let step = each_step (column_step [] m.grid m.ibound m.nevtop (area_in s)) (layer_size m.grid) 0 (has.passed []) (place_in_layer m.grid c) (omega arith) (omega (arith, low)) in
      let there : column_tested [] m.grid m.ibound (area_in s) (place_in_layer m.grid c) (Some c) ≡ Ok tt = rw (chosen_is m m.nevtop s.ievt c size lt active chosen) at step in
      let tested : cell_tested [] m.grid c (evap_fault at_cell) ≡ Ok tt = rw active at there in
      passed_is [] m.grid c _ tested

  abbrev sources : List EvapSource
  sources = option_to_list (cond (is_chosen m m.nevtop s.ievt c && not (at_cell.rate.digits == 0)) (Some at_cell) None)

  of_period : HasArrays evaporation_arrays m.grid m.ibound m.nevtop (area_in s) → All IsEvapValid sources
  of_period has = by_case (is_chosen m m.nevtop s.ievt c) refl (at_cell.rate.digits == 0) refl
    where
      by_case : (a : Bool) → is_chosen m m.nevtop s.ievt c ≡ a → (b : Bool) → (at_cell.rate.digits == 0) ≡ b → All IsEvapValid (option_to_list (cond (a && not b) (Some at_cell) None))
      by_case false p b q = All-nil IsEvapValid
      by_case true p true q = All-nil IsEvapValid
      by_case true p false q = All-cons IsEvapValid at_cell []
          (source_sound at_cell (dec_at_is s.evtr (place_in_layer m.grid c) has.is.rates.1)
          (dec_at_is s.surf (place_in_layer m.grid c) (has.is.surfaces refl).1) (dec_at_is s.exdp (place_in_layer m.grid c) (has.is.depths refl).1)
          (no_fault has p) q)
          (All-nil IsEvapValid)

  -- an empty array of rates has rate 0 everywhere
  of_none : s.evtr ≡ [] → All IsEvapValid sources
  of_none e = by_case (is_chosen m m.nevtop s.ievt c) (at_cell.rate.digits == 0) (rw e refl)
    where
      by_case : (a b : Bool) → b ≡ true → All IsEvapValid (option_to_list (cond (a && not b) (Some at_cell) None))
      by_case true true q = All-nil IsEvapValid
      by_case false true q = All-nil IsEvapValid
      by_case a false q = absurd (let clash : false ≡ true = q in cc)

-- a period has evapotranspiration, or no rates
pub evaps : (m : FlowModel) → HasSize m.grid → All (λ p. HasArrays evaporation_arrays m.grid m.ibound m.nevtop (area_in p.stresses) ⊎ (p.stresses.evtr ≡ [])) m.periods
    → (p c : ℕ) → c < cell_count m.grid → is_active m c ≡ true → All IsEvapValid (evap_sources m p c)
evaps m size has p c lt active = by_place (cases_lt (p - 1) (length m.periods))
  where
    by_case : (s : Stresses) → HasArrays evaporation_arrays m.grid m.ibound m.nevtop (area_in s) ⊎ (s.evtr ≡ []) → All IsEvapValid (sources m c size lt active s)
    by_case s (inl h) = of_period m c size lt active s h
    by_case s (inr e) = of_none m c size lt active s e

    by_place : (p - 1 < length m.periods) ⊎ (length m.periods ≤ p - 1) → All IsEvapValid (evap_sources m p c)
    by_place (inl within) = by_case (period_at m p).stresses (has (p - 1) no_period within)
    by_place (inr past) = by_case (period_at m p).stresses (inr (rw (get_or_past m.periods (p - 1) no_period past) refl))

-- Cells of a column of layers.
pub in_grid : (g : Grid) (k i : ℕ) → k < g.layers → i < layer_size g → k * layer_size g + i < cell_count g
in_grid g k i kl il =
    let more : (k + 1) * layer_size g ≤ g.layers * layer_size g = mul-le-mul_right (layer_size g) (omega (arith, kl)) in
    omega (arith, il, more)

-- the next cell isn't active
pub goes_down : (g : Grid) (ibound : List ℤ) (i k n : ℕ) (total : Option ℕ) → k < n → is_nonzero (int_at ibound (k * layer_size g + i)) ≡ false →
    highest_active g ibound i k (n - k) ≡ total → highest_active g ibound i (k + 1) (n - (k + 1)) ≡ total
unfolding highest_active
goes_down g ibound i k n total lt e so_far = let m : n - k ≡ suc (n - (k + 1)) = omega (arith, lt) in rw (← so_far, m, e) refl

pub is_found : (g : Grid) (ibound : List ℤ) (i k n : ℕ) (total : Option ℕ) → k < n → is_nonzero (int_at ibound (k * layer_size g + i)) ≡ true →
    highest_active g ibound i k (n - k) ≡ total → Some (k * layer_size g + i) ≡ total
unfolding highest_active
is_found g ibound i k n total lt e so_far = let m : n - k ≡ suc (n - (k + 1)) = omega (arith, lt) in rw (← so_far, m, e) refl

pub is_none : (g : Grid) (ibound : List ℤ) (i k n : ℕ) (total : Option ℕ) → n ≤ k → highest_active g ibound i k (n - k) ≡ total → None ≡ total
unfolding highest_active
is_none g ibound i k n total le so_far = let m : n - k ≡ 0 = omega (arith, le) in rw (← so_far, m) refl
