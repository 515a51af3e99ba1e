-- Whether the listed heads of a step of a model with convertible layers hold, and the first place where they don't. Heads are in units of 10^-9, balances in
-- units of 10^-(s+9).
use Rattle.std.specs.Prelude.{◌≡◌, ℕ, ℤ, pos, neg_ℤ, ◌<◌, ◌≤ℤ◌, ◌⊎◌, List, length, map, true, Result, Ok, Err}
use Rattle.step_problem.specs.{declared.heads.Bound.Bound, declared.heads.Side.Side, declared.heads.Side.TheVariants.High, declared.heads.Side.TheVariants.Low}
use Rattle.step_problem.specs.{declared.place.NoBound.NoBound, declared.place.Place.Place, declared.place.Place.TheVariants.Cell}
use Rattle.step_problem.specs.{declared.refusal.BoundFault.BoundFault, declared.refusal.StepRefusal.TheVariants.ConductanceTooLarge, Entries.Entries}
use Rattle.step_problem.specs.{entries_at, lower_at, number_of, upper_at}
use Rattle.step_problem.specs.declared.refusal.BoundFault.TheVariants as bound
use Rattle.cell_relax.specs.{heads_on}
use Rattle.model_types.specs.{declared.model.FlowModel.FlowModel, declared.time_steps.TimeStep.TimeStep, cell_count, is_constant, is_variable, variable_cells}
use Rattle.problem_builder.specs.{bound_at, constant_bound, problem_over}
use Rattle.water_table.specs.declared.convertible_layers.ConvertibleLayers.{ConvertibleLayers}
use Rattle.water_conductances.specs.{AreOrdered}
use Rattle.water_storage.specs.{ArePairs}
use Rattle.gentle_heads.specs.{AreGentleBetween, IsFirstSteep}
use Rattle.gentle_problem.specs.{branches_at}
use Rattle.gentle_check.specs.{whole_balance}
use Rattle.gentle_steps.specs.{declared.fault.GentleFault.GentleFault, declared.posed.Posed.Posed, Sides.side_bounds}
use Rattle.gentle_steps.specs.declared.fault.GentleFault.TheVariants as fault

-- c is the first of the numbers below n for which P doesn't hold
pub record IsFirst (P : ℕ → Type 0) (n c : ℕ) : Type 0 where
  pub within : c < n
  pub fails : P c → ⊥
  pub before : (b : ℕ) → b < c → P b

-- the lower balance is at least one unit of flow, the upper one at most minus one
abbrev pub HasSign : Side → ℤ → Type 0
HasSign Low z = pos 1 ≤ℤ z
HasSign High z = z ≤ℤ neg_ℤ (pos 1)

-- beside the bound of a constant head, a listed bound is as wide on one side
abbrev pub ReachesOn : Side → Bound → Bound → Type 0
ReachesOn Low given listed = listed.low ≤ℤ given.low
ReachesOn High given listed = given.high ≤ℤ listed.high

-- a step's fault by that of a problem
abbrev pub of_bound : BoundFault → GentleFault
of_bound (bound.NoBound n) = fault.Refused n
of_bound bound.Memory = fault.Memory

-- A time step, where `listed` are the listed heads of all cells.
-- the first cell whose lower head is above its upper one
abbrev pub IsFirstCrossed : FlowModel → List Bound → ℕ → Type 0
IsFirstCrossed m listed = IsFirst (λ c. lower_at listed c ≤ℤ upper_at listed c) (cell_count m.grid)

module _ (m : FlowModel) (w : ConvertibleLayers) (at : TimeStep) (listed : List Bound) where
  -- no lower head is above the upper one, and all heads between are gentle
  pub record IsGentlyListed : Type 0 where
    pub ordered : AreOrdered m listed
    pub gentle : AreGentleBetween m w at.period listed

  -- the first cell where this fails, those of crossed heads first
  abbrev pub IsSteep : ℕ → Type 0
  IsSteep c = IsFirstCrossed m listed c ⊎ (AreOrdered m listed × IsFirstSteep m w at.period listed c)

module _ (m : FlowModel) (w : ConvertibleLayers) (s : ℕ) (at : TimeStep) where
  -- the pairs of stored water of a variable cell are below 2^60 units
  abbrev pub StoredWaterFits : ℕ → Type 0
  StoredWaterFits c = is_variable m at.period c ≡ true → ArePairs m w s at c

  -- the first cell where one isn't
  abbrev pub IsFirstLarge : ℕ → Type 0
  IsFirstLarge = IsFirst StoredWaterFits (cell_count m.grid)

module _ (m : FlowModel) (w : ConvertibleLayers) (s : ℕ) (at : TimeStep) (listed : List Bound) where
  -- the problem of a side: that of the model whose water table is the heads of the side, without storage; or its first refusal
  abbrev pub side_problem : Side → Result (List Entries) NoBound
  side_problem side = let heads = side_bounds m at listed side in problem_over m s at heads (branches_at m w heads s)

  abbrev pub IsSideProblem : Side → List Entries → Type 0
  IsSideProblem side p = side_problem side ≡ Ok p

  -- lack of memory is possible at any time
  abbrev pub HasNoSideProblem : Side → BoundFault → Type 0
  HasNoSideProblem side (bound.NoBound n) = side_problem side ≡ Err n
  HasNoSideProblem side bound.Memory = Unit {0}

  -- the problems of both sides, and pairs of stored water that fit
  pub record AreSidesPosed (p q : List Entries) : Type 0 where
    pub low : IsSideProblem Low p
    pub high : IsSideProblem High q
    pub stored : (c : ℕ) → c < cell_count m.grid → StoredWaterFits m w s at c

  -- The step's first refusal where all heads between are gentle: of the problem of the lower heads, of that of the upper ones, or of stored water.
  pub data IsRefused (n : NoBound) : Type 0 where
    no_low_problem : side_problem Low ≡ Err n → IsRefused n
    no_high_problem : (p : List Entries) → IsSideProblem Low p → side_problem High ≡ Err n → IsRefused n
    no_storage : (p q : List Entries) (c : ℕ) → IsSideProblem Low p → IsSideProblem High q → IsFirstLarge m w s at c →
        n ≡ record { code = number_of ConductanceTooLarge; place = Cell c Low } → IsRefused n

  -- what the calls of a check pass to each other
  pub record ArePosed (x : Posed) : Type 0 where
    pub sides : AreSidesPosed x.low x.high
    pub low_cells : map (λ e. e.id) x.low ≡ variable_cells m at.period
    pub high_cells : map (λ e. e.id) x.high ≡ variable_cells m at.period

  abbrev pub IsUnposed : GentleFault → Type 0
  IsUnposed (fault.Steep c) = ⊥
  IsUnposed (fault.Fails place) = ⊥
  IsUnposed (fault.Refused n) = IsRefused n
  IsUnposed fault.Memory = Unit {0}

module _ (m : FlowModel) (at : TimeStep) (listed : List Bound) where
  -- In a constant-head cell the listed bound is as wide as the floor and the ceiling of its head, on one side.
  abbrev pub ReachesAt : ℕ → Side → Type 0
  ReachesAt c side = is_constant m at.period c ≡ true → ReachesOn side (constant_bound m at c) (bound_at listed c)

  abbrev pub ConstantsReach : Type 0
  ConstantsReach = (c : ℕ) → c < cell_count m.grid → (side : Side) → ReachesAt c side

  -- the side where it isn't, the lower one first
  abbrev pub IsShort : ℕ → Side → Type 0
  IsShort c side = (ReachesAt c side → ⊥) × (side ≡ High → ReachesAt c Low)

  -- the first constant-head cell and side where it isn't
  pub record IsFirstShort (c : ℕ) (side : Side) : Type 0 where
    pub first : IsFirst (λ d. (other : Side) → ReachesAt d other) (cell_count m.grid) c
    pub short : IsShort c side

  -- the listed bounds of the variable cells, by ascending cell number
  abbrev pub variable_bounds : List Bound
  variable_bounds = map (bound_at listed) (variable_cells m at.period)

-- `old` are the listed heads before the step, or the bounds of STRT; p is the problem of the lower heads, q that of the upper ones.
module _ (m : FlowModel) (w : ConvertibleLayers) (s : ℕ) (at : TimeStep) (old listed : List Bound) where
  -- the balance of the variable cell of index i on a side, by the problem of the side
  abbrev pub balance_at : List Entries → List Entries → ℕ → Side → ℤ
  balance_at p q i Low = whole_balance m w s at Low p old (heads_on Low (variable_bounds m at listed)) i
  balance_at p q i High = whole_balance m w s at High q old (heads_on High (variable_bounds m at listed)) i

  abbrev pub HasSignAt : List Entries → List Entries → ℕ → Side → Type 0
  HasSignAt p q i side = HasSign side (balance_at p q i side)

  -- the side where the balance hasn't its sign, the lower one first
  abbrev pub IsWeak : List Entries → List Entries → ℕ → Side → Type 0
  IsWeak p q i side = (HasSignAt p q i side → ⊥) × (side ≡ High → HasSignAt p q i Low)

  -- the first variable cell, by its index, and side where it hasn't
  pub record IsFirstWeak (p q : List Entries) (i : ℕ) (side : Side) : Type 0 where
    pub first : IsFirst (λ k. (other : Side) → HasSignAt p q k other) (length p) i
    pub weak : IsWeak p q i side

  -- the balances of all variable cells have their signs
  abbrev pub HaveSigns : List Entries → List Entries → Type 0
  HaveSigns p q = (i : ℕ) → i < length p → (side : Side) → HasSignAt p q i side

  -- The listed heads hold.
  pub record HeadsHold (p q : List Entries) : Type 0 where
    pub gently : IsGentlyListed m w at listed
    pub posed : AreSidesPosed m w s at listed p q
    pub constants : ConstantsReach m at listed
    pub signs : HaveSigns p q

  -- The first place that fails where the step has no refusal: a constant-head cell and its side; where those hold, a variable cell and its side.
  pub data FailsAt (place : Place) : Type 0 where
    at_constant : (p q : List Entries) (c : ℕ) (side : Side) → AreSidesPosed m w s at listed p q → IsFirstShort m at listed c side →
        place ≡ Cell c side → FailsAt place
    at_variable : (p q : List Entries) (i : ℕ) (side : Side) → AreSidesPosed m w s at listed p q → ConstantsReach m at listed →
        IsFirstWeak p q i side → place ≡ Cell (entries_at p i).id side → FailsAt place

  -- the cause of a step's fault; lack of memory is possible at any time
  abbrev pub FailsBy : GentleFault → Type 0
  FailsBy (fault.Steep c) = IsSteep m w at listed c
  FailsBy (fault.Fails place) = IsGentlyListed m w at listed × FailsAt place
  FailsBy (fault.Refused n) = IsGentlyListed m w at listed × IsRefused m w s at listed n
  FailsBy fault.Memory = Unit {0}
