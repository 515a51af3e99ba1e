-- What the problem of the differences encloses: the differences of two plans' heads in whatever weather.
use Rattle.std.specs.Prelude.{◌≡◌, ℕ, ℤ, ◌-ℤ◌, ◌<◌, ◌++◌, List, length, map}
use Rattle.std.specs.List.{AllZip}
use Rattle.decimal_input.specs.{EnclosesSigned, opposite}
use Rattle.step_problem.specs.{declared.entry.Drain.Drain, declared.entry.Evap.Evap, declared.entry.River.River, declared.heads.Bound.Bound, Entries.Entries}
use Rattle.step_problem.specs.{lower_at, upper_at}
use Rattle.cell_balance.specs.{DrainEncloses, EnclosesSolutions, EnclosesStep, EvapEncloses, ExactCell, ExactDrain, ExactEvap, ExactFixed, ExactFlow}
use Rattle.cell_balance.specs.{ExactRiver, FixedEncloses, LiesBetween, RiverEncloses, SolvesStep, cell_at, drain_flow, evap_flow, minus, river_flow, share}
use Rattle.plan_difference.specs.{AreInOneWeather, IsDifferenceStep, IsRampBranch}
use Rattle.plan_step.specs.Branches.{drain_branch, evap_branch, known_high, known_low, river_branch}
use Rattle.plan_step.specs.Problems.{IsDifferenceProblem, bound_at}

-- Of a river, a drain or an evapotranspiration: for all heads X and Y over d that lie within x and y there is a branch to 0 that gives
-- what it gives more at X than at Y, and the branch of the bounds encloses it.
abbrev pub RiversAreEnclosed : Type 0
RiversAreEnclosed =
    (s id d : ℕ) (X Y : ℤ) (x y : Bound) (p : River) (r : ExactRiver) → 0 < d → RiverEncloses s p r →
    EnclosesSigned x.low x.high 9 (share d X) → EnclosesSigned y.low y.high 9 (share d Y) →
    (b : ExactFixed) × IsRampBranch id (share d (X -ℤ Y)) r.conductance (river_flow (share d X) r) (river_flow (share d Y) r) b
    × FixedEncloses s (river_branch id x y p) b

abbrev pub DrainsAreEnclosed : Type 0
DrainsAreEnclosed =
    (s id d : ℕ) (X Y : ℤ) (x y : Bound) (p : Drain) (r : ExactDrain) → 0 < d → DrainEncloses s p r →
    EnclosesSigned x.low x.high 9 (share d X) → EnclosesSigned y.low y.high 9 (share d Y) →
    (b : ExactFixed) × IsRampBranch id (share d (X -ℤ Y)) r.conductance (drain_flow (share d X) r) (drain_flow (share d Y) r) b
    × FixedEncloses s (drain_branch id x y p) b

abbrev pub EvapsAreEnclosed : Type 0
EvapsAreEnclosed =
    (s id d : ℕ) (X Y : ℤ) (x y : Bound) (p : Evap) (r : ExactEvap) → 0 < d → EvapEncloses s p r →
    EnclosesSigned x.low x.high 9 (share d X) → EnclosesSigned y.low y.high 9 (share d Y) →
    (b : ExactFixed) × IsRampBranch id (share d (X -ℤ Y)) r.conductance (evap_flow (share d X) r) (evap_flow (share d Y) r) b
    × FixedEncloses s (evap_branch id x y p) b

-- a plan's flow, as the base plan has it more
abbrev pub turned_flow : ExactFlow → ExactFlow
turned_flow q = record q { flow = opposite q.flow }

abbrev pub are_turned : List ExactFlow → List ExactFlow
are_turned qs = map turned_flow qs

-- The known heads of two plans' branches lie apart by the old difference over storage, and not at all elsewhere.
pub record IsApartBy (old : Bound) (p q : ExactFixed) : Type 0 where
  pub head : EnclosesSigned (known_low old p.kind) (known_high old p.kind) 9 (minus p.head q.head)

-- The other plan's cell y: that of the base plan in the same weather, with the plan's wells after its flows.
pub record IsPlannedCell (old : Bound) (added : List ExactFlow) (x y : ExactCell) : Type 0 where
  pub weather : AreInOneWeather x y
  pub apart : AllZip (IsApartBy old) x.fixed y.fixed
  pub flows : y.flows ≡ x.flows ++ added

-- The other plan's step f, where olds are the old differences by cell number, and added c the plan's wells at the cell of index c.
pub record IsPlannedStep (olds : List Bound) (added : ℕ → List ExactFlow) (e f : List ExactCell) : Type 0 where
  pub as_many : length f ≡ length e
  pub cells : (c : ℕ) → c < length e → IsPlannedCell (bound_at olds (cell_at e c).id) (added c) (cell_at e c) (cell_at f c)

-- Heads X and Y over d of both plans, at one step in one weather, and what encloses them: the problems p and q and the heads xs and ys of both.
pub record AreTwoPlans (s : ℕ) (p q : List Entries) (xs ys olds : List Bound) (added : ℕ → List ExactFlow) (e f : List ExactCell)
    (d : ℕ) (X Y : ℕ → ℤ) : Type 0 where
  pub base : EnclosesStep s p e
  pub planned : EnclosesStep s q f
  pub step : IsPlannedStep olds added e f
  pub some : 0 < d
  pub first : LiesBetween (length p) d X (lower_at xs) (upper_at xs)
  pub second : LiesBetween (length p) d Y (lower_at ys) (upper_at ys)

-- The problem of the differences encloses a step of the differences, whatever the weather.
abbrev pub DifferencesHaveAStep : Type 0
DifferencesHaveAStep =
    (s : ℕ) (base planned p : List Entries) (xs ys olds : List Bound) (added : ℕ → List ExactFlow) (e f : List ExactCell) (d : ℕ) (X Y : ℕ → ℤ) →
    IsDifferenceProblem base planned xs ys olds p → AreTwoPlans s base planned xs ys olds added e f d X Y →
    (g : List ExactCell) × IsDifferenceStep d X Y (λ c. are_turned (added c)) e f g × EnclosesStep s p g

-- So heads that enclose all solutions of the problem, as its barrier does and a certificate over it, enclose the differences of
-- two plans' solutions.
abbrev pub SolutionsBoundPlans : Type 0
SolutionsBoundPlans =
    (s : ℕ) (base planned p : List Entries) (xs ys olds : List Bound) (added : ℕ → List ExactFlow) (e f : List ExactCell) (d : ℕ) (X Y l u : ℕ → ℤ) →
    IsDifferenceProblem base planned xs ys olds p → AreTwoPlans s base planned xs ys olds added e f d X Y → SolvesStep e d X → SolvesStep f d Y →
    EnclosesSolutions p l u → LiesBetween (length p) d (λ c. X c -ℤ Y c) l u
