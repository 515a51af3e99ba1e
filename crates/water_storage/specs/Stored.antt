-- The bounds of the flow of stored water into a cell over a time step, in units of 10^-(s+9): heads before and after it are known by bounds, in units of
-- 10^-9. Below the top of a convertible cell a fall of head gives SY * DELR * DELC, above it SS * THICK * DELR * DELC, both over the length of the step.
use Rattle.std.specs.Prelude.{ℕ, ℤ, pos, ◌+◌, ◌^◌, ◌<◌, ◌+ℤ◌, ◌-ℤ◌, ◌≤ℤ◌, ◌≤◌, cond, false, Contains, ◌≡◌}
use Rattle.std.specs.Int.{int_max, int_min}
use Rattle.decimal_input.specs.{EnclosesSigned, Fraction}
use Rattle.scaled_decimal.specs.{Lower, Upper}
use Rattle.step_problem.specs.{declared.heads.Bound.Bound, declared.heads.Side.Side, declared.heads.Side.TheVariants.High, declared.heads.Side.TheVariants.Low}
use Rattle.step_problem.specs.{branch_flow}
use Rattle.model_types.specs.{declared.model.FlowModel.FlowModel, declared.time_steps.TimeStep.TimeStep, IsModel, period_at, times, top_at}
use Rattle.conductance_bounds.specs.declared.pair.Pair.{Pair}
unfoldable use Rattle.conductance_bounds.specs.{units_at}
use Rattle.problem_builder.specs.{IsActive, storage_pair}
use Rattle.water_table.specs.{declared.convertible_layers.ConvertibleLayers.ConvertibleLayers, is_convertible, storage_flow, with_yield}

-- the fall from a head to another one: the least on the low side, the greatest on the high side
abbrev pub fall_on : Side → Bound → Bound → ℤ
fall_on Low from to = from.low -ℤ to.high
fall_on High from to = from.high -ℤ to.low

-- the flow of a fall over a conductance
abbrev pub fall_flow : Side → Pair → Bound → Bound → ℤ
fall_flow side p from to = branch_flow side p.lo p.hi (fall_on side from to)

-- the bounds of the lesser and of the greater of two heads
abbrev pub lesser_bound : Bound → Bound → Bound
lesser_bound a b = record { low = int_min a.low b.low; high = int_min a.high b.high }

abbrev pub greater_bound : Bound → Bound → Bound
greater_bound a b = record { low = int_max a.low b.low; high = int_max a.high b.high }

-- a lower and an upper number
abbrev pub both_of : ℤ → ℤ → Bound
both_of low high = record { low = low; high = high }

-- the floor and the ceiling of the top of a cell
abbrev pub top_bound : FlowModel → ℕ → Bound
top_bound m c = record { low = units_at Lower (top_at m c) 9; high = units_at Upper (top_at m c) 9 }

-- the floor and the ceiling of some elevation
pub record IsTop (t : Bound) : Type 0 where
  pub order : t.low ≤ℤ t.high
  pub near : t.high ≤ℤ (t.low +ℤ pos 1)

-- Where LAYTYP isn't 0: the flow below the top over one pair, and that above it over another one.
abbrev pub crossing_of : FlowModel → ℕ → Pair → Pair → Side → Bound → Bound → ℤ
crossing_of m c drained compressed side old new =
    fall_flow side drained (lesser_bound old (top_bound m c)) (lesser_bound new (top_bound m c))
    +ℤ fall_flow side compressed (greater_bound old (top_bound m c)) (greater_bound new (top_bound m c))

-- a pair in order, below 2^60 units
pub record IsSmallPair (p : Pair) : Type 0 where
  pub order : p.lo ≤ p.hi
  pub small : p.hi < 2 ^ 60

module _ (m : FlowModel) (w : ConvertibleLayers) (s : ℕ) (at : TimeStep) (c : ℕ) where
  -- SY * DELR * DELC over the length of the step
  abbrev pub yield_pair : Pair
  yield_pair = storage_pair (with_yield m w) s at c

  abbrev pub crossing_flow : Side → Bound → Bound → ℤ
  crossing_flow = crossing_of m c yield_pair (storage_pair m s at c)

  -- where LAYTYP is 0, the confined model's
  abbrev pub confined_flow : Side → Bound → Bound → ℤ
  confined_flow side old new = fall_flow side (storage_pair m s at c) old new

  -- none in a steady period
  abbrev pub stored_flow : Side → Bound → Bound → ℤ
  stored_flow side old new = cond (period_at m at.period).steady (pos 0) (cond (is_convertible m w c) (crossing_flow side old new) (confined_flow side old new))

  -- in a transient period both pairs are below 2^60 units
  pub record AreSmall : Type 0 where
    pub drained : yield_pair.hi < 2 ^ 60
    pub compressed : (storage_pair m s at c).hi < 2 ^ 60

  abbrev pub ArePairs : Type 0
  ArePairs = (period_at m at.period).steady ≡ false → AreSmall

-- The bounds enclose the flow of stored water from each head within the old bounds to each one within the new bounds.
abbrev pub StoredFlowsEnclose : Type 0
StoredFlowsEnclose = (m : FlowModel) (w : ConvertibleLayers) (s : ℕ) (at : TimeStep) (c : ℕ) (old new : Bound) (o v : Fraction) → IsModel m →
    IsModel (with_yield m w) → Contains (times m) at → IsActive m c → ArePairs m w s at c → EnclosesSigned old.low old.high 9 o →
    EnclosesSigned new.low new.high 9 v →
    EnclosesSigned (stored_flow m w s at c Low old new) (stored_flow m w s at c High old new) (s + 9) (storage_flow m w at.period at.step c o v)
