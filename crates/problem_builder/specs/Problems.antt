-- The problem of a time step, and the refusal of a step that has none.
use Rattle.std.specs.Prelude.{◌≡◌, ℕ, ◌<◌, true, List, [], ◌∷◌, Result, Ok, Err, Some, None, ◌^◌, ◌&&◌, ◌||◌, ◌==◌, nat_le, Bool, false, cond, map, Option}
use Rattle.std.specs.{List.list_any, List.filter_map, Option.option_map}
use Rattle.step_problem.specs.{declared.heads.Bound.Bound, declared.heads.Side.TheVariants.Low, declared.place.NoBound.NoBound}
use Rattle.step_problem.specs.{declared.place.Place.TheVariants.Cell, Entries.Entries, declared.refusal.BoundFault.BoundFault}
use Rattle.step_problem.specs.{declared.refusal.BoundFault.TheVariants.NoBound as Refused, declared.refusal.BoundFault.TheVariants.Memory}
use Rattle.step_problem.specs.{declared.entry.FixedKind.FixedKind, declared.entry.FixedKind.TheVariants.Constant, declared.entry.FixedKind.TheVariants.General}
use Rattle.step_problem.specs.{declared.entry.FixedKind.TheVariants.Storage, declared.refusal.StepRefusal.TheVariants.ConductanceTooSmall}
use Rattle.step_problem.specs.{declared.refusal.StepRefusal.TheVariants.ConductanceTooLarge, declared.refusal.StepRefusal.TheVariants.FlowTooLarge, number_of}
use Rattle.step_problem.specs.{conductance_of, flow_magnitude}
use Rattle.model_types.specs.{declared.model.FlowModel.FlowModel, declared.time_steps.TimeStep.TimeStep, cell_count, is_variable, variable_cells, period_at}
use Rattle.decimal_input.specs.{Fraction}
use Rattle.cell_balance.specs.{EnclosesStep}
use Rattle.flow_equations.specs.{exact_step}
use Rattle.problem_builder.specs.{Cells.Branches, Cells.below_over, Cells.cell_over, Cells.model_branches, Cells.step_over, GridHeads.HeadsEnclose}
use Rattle.problem_builder.specs.{GridHeads.IsActive, GridHeads.IsCellNamed, GridHeads.HasOldHeads, Tables.Inputs, Tables.branches_of}

-- The refusals of a cell, in their order.
-- a branch to a constant-head neighbour
abbrev pub is_branch : FixedKind → Bool
is_branch Constant = true
is_branch General = false
is_branch Storage = false

-- whether the lower conductance to an active neighbour is 0
abbrev pub has_small_branch : Entries → Bool
has_small_branch e = list_any (λ x. x.lo == 0) e.links || list_any (λ x. is_branch x.kind && (x.lo == 0)) e.fixed

-- the number of the first refusal that a cell has
unfoldable pub fault_of : Entries → Option ℕ
fault_of e =
    cond (has_small_branch e) (Some (number_of ConductanceTooSmall))
    (cond (nat_le (2 ^ 60) (conductance_of e)) (Some (number_of ConductanceTooLarge))
    (cond (nat_le (2 ^ 109) (flow_magnitude e)) (Some (number_of FlowTooLarge)) None))

-- the refusal of a cell
abbrev pub refusal_of : Entries → Option NoBound
refusal_of e = option_map (λ code. record { code = code; place = Cell e.id Low }) (fault_of e)

-- the first of the refusals, or all cells
abbrev pub unless_refused : List NoBound → List Entries → Result (List Entries) NoBound
unless_refused [] es = Ok es
unless_refused (n ∷ ns) es = Err n

module _ (m : FlowModel) (s : ℕ) (at : TimeStep) (old : List Bound) (b : Branches) where
  -- The problem of a time step over these branches: all variable cells, by ascending number; or the refusal of the first cell that has one.
  abbrev pub problem_over : Result (List Entries) NoBound
  problem_over = unless_refused (filter_map refusal_of (step_over m s at old b)) (step_over m s at old b)

  abbrev pub IsProblemOver : List Entries → Type 0
  IsProblemOver p = problem_over ≡ Ok p

  -- lack of memory is possible at any time
  abbrev pub IsFaultOver : BoundFault → Type 0
  IsFaultOver (Refused fault) = problem_over ≡ Err fault
  IsFaultOver Memory = Unit {0}

  -- the variable cells below cell n, none of which has a refusal
  pub record AreCellsOver (n : ℕ) (es : List Entries) : Type 0 where
    pub each : es ≡ below_over m s at old b n
    pub sound : filter_map refusal_of es ≡ []

module _ (m : FlowModel) (s : ℕ) (at : TimeStep) (old : List Bound) where
  -- The problem of a confined model's time step with s digits, from the heads `old` before it.
  unfoldable pub problem_of : Result (List Entries) NoBound
  problem_of = problem_over m s at old (model_branches m s at)

  abbrev pub IsProblemOf : List Entries → Type 0
  IsProblemOf p = problem_of ≡ Ok p

  abbrev pub HasNoProblem : NoBound → Type 0
  HasNoProblem fault = problem_of ≡ Err fault

  -- It has the variable cells, names active cells alone, encloses the exact step from all exact heads within the old ones,
  -- and in a transient period has their branches.
  pub record IsBuilt (p : List Entries) : Type 0 where
    pub problem : IsProblemOf p
    pub cells : map (λ e. e.id) p ≡ variable_cells m at.period
    pub named : (c : ℕ) → IsCellNamed p c → IsActive m c
    pub encloses : (before : ℕ → Fraction) → HeadsEnclose m old before → EnclosesStep s p (exact_step m at.period at.step before)
    pub stored : (period_at m at.period).steady ≡ false → HasOldHeads p

  -- lack of memory is possible at any time
  abbrev pub IsBuildFault : BoundFault → Type 0
  IsBuildFault (Refused fault) = HasNoProblem fault
  IsBuildFault Memory = Unit {0}

  abbrev pub AreCells : ℕ → List Entries → Type 0
  AreCells = AreCellsOver m s at old (model_branches m s at)

-- Facts that the functions of the builder pass to each other on the way to a cell.
-- a cell of the grid that is variable
pub record IsVariableCell (i : Inputs) (c : ℕ) : Type 0 where
  pub within : c < cell_count i.model.grid
  pub variable : is_variable i.model i.at.period c ≡ true

-- a cell without a refusal, and the refusal of a cell
pub record IsCheckedCell (i : Inputs) (c : ℕ) (e : Entries) : Type 0 where
  pub is : e ≡ cell_over i.model i.tables.digits i.at i.old (branches_of i) c
  pub sound : refusal_of e ≡ None

abbrev pub IsCellFault : Entries → BoundFault → Type 0
IsCellFault e Memory = Unit {0}
IsCellFault e (Refused fault) = refusal_of e ≡ Some fault
