-- What recharge and evapotranspiration owe to the manual (TM 6-A16, chapter 6, RCH and EVT).
use Rattle.std.specs.Prelude.{◌≡◌, ℕ, suc, ℤ, pos, List, All, Contains, true, false, map}
use Rattle.decimal_input.specs.{number, size, Fraction, as_fraction, opposite, Ratios.times, Fractions.times as product, Fractions.AtMost, Fractions.Same}
use Rattle.step_problem.specs.declared.entry.FlowKind.TheVariants.{Wells, Recharge}
use Rattle.cell_balance.specs.{ExactEvap, AreLinked, minus, evap_flow}
use Rattle.model_types.specs.{declared.model.FlowModel.FlowModel, layer_of, place_in_layer, dec_at, int_at, is_active, area, IsPositive, HasSize, period_at}
use Rattle.model_types.specs.{EvapSource, is_chosen, is_highest, variable_cells}
use Rattle.flow_equations.specs.ExactStep.{exact_cell, exact_evap, exact_step}

-- An option chooses at most one cell of a column of layers: under 1 its cell of layer 1, under 2 the cell of the layer that the
-- array names, under 3 its highest active cell.
pub record ChoosesOneCell (m : FlowModel) (layers : List ℤ) : Type 0 where
  pub one : (option : ℤ) (a b : ℕ) → place_in_layer m.grid a ≡ place_in_layer m.grid b →
      is_chosen m option layers a ≡ true → is_chosen m option layers b ≡ true → a ≡ b
  pub top : (c : ℕ) → layer_of m.grid c ≡ 0 → is_chosen m (pos 1) layers c ≡ true
  pub named : (c : ℕ) → int_at layers (place_in_layer m.grid c) ≡ pos (suc (layer_of m.grid c)) → is_chosen m (pos 2) layers c ≡ true
  pub highest : (c : ℕ) → is_active m c ≡ true → is_highest m c ≡ true → is_chosen m (pos 3) layers c ≡ true

-- the recharge of a cell in a period: RECH * DELR * DELC
abbrev pub recharge_of : FlowModel → ℕ → ℕ → Fraction
recharge_of m p c = product (number (dec_at (period_at m p).stresses.recharge (place_in_layer m.grid c))) (as_fraction (area m c))

-- The cell that the option chooses receives its rate times its area, and no other cell receives recharge.
pub record ReceivesRecharge (m : FlowModel) (p n : ℕ) (old : ℕ → Fraction) (c : ℕ) : Type 0 where
  pub chosen : is_chosen m m.nrchop (period_at m p).stresses.irch c ≡ true →
      Contains (exact_cell m p n old c).flows (record { kind = Recharge; flow = recharge_of m p c })
  pub other : is_chosen m m.nrchop (period_at m p).stresses.irch c ≡ false → All (λ x. x.kind ≡ Wells) (exact_cell m p n old c).flows

-- Evapotranspiration takes EVTR * DELR * DELC where the head is at SURF or above, and nothing where it is at SURF - EXDP or below.
pub record Evaporates (m : FlowModel) (c : ℕ) (v : Fraction) (x : EvapSource) (e : ExactEvap) : Type 0 where
  pub above : AtMost (number x.surface) v → Same (evap_flow v e) (opposite (as_fraction (times (size x.rate) (area m c))))
  pub below : AtMost v (minus (number x.surface) (number x.depth)) → (evap_flow v e).num ≡ pos 0

abbrev pub TakesEvapotranspiration : FlowModel → Type 0
TakesEvapotranspiration m = (p n : ℕ) (old : ℕ → Fraction) (c : ℕ) (v : Fraction) (x : EvapSource) → IsPositive x.depth →
    Evaporates m c v x (exact_evap m p n old c x)

-- The exact equations of a step by the manual.
-- one equation for each variable cell of the period, by ascending cell number
abbrev pub HasAnEquationEach : Type 0
HasAnEquationEach = (m : FlowModel) (p n : ℕ) (old : ℕ → Fraction) → map (λ e. e.id) (exact_step m p n old) ≡ variable_cells m p

-- each link leads to another variable cell, different links lead to different cells, and the two ends of a link have the same conductance
abbrev pub LinksAreMutual : Type 0
LinksAreMutual = (m : FlowModel) (p n : ℕ) (old : ℕ → Fraction) → HasSize m.grid → AreLinked (exact_step m p n old)
