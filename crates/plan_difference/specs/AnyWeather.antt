-- Whole bounds of the differences' step that hold in every weather, and what encloses all solutions of a problem of them.
use Rattle.std.specs.Prelude.{ℕ, ℤ, pos, ◌-ℤ◌, ◌<◌, ◌≡◌, List, [], ◌++◌, length}
use Rattle.std.specs.List.{AllZip}
use Rattle.decimal_input.specs.{Encloses, Ratio}
use Rattle.step_problem.specs.{declared.entry.Fixed.Fixed, declared.entry.FixedKind.TheVariants.General, Entries.Entries, entries_at}
use Rattle.cell_balance.specs.{ExactCell, FixedEncloses, FlowEncloses, ExactFlow, HasEqualEnds, LiesBetween, LinkEncloses, SolvesStep, cell_at, EnclosesStep}
use Rattle.cell_balance.specs.{EnclosesSolutions}
use Rattle.plan_difference.specs.DifferenceStep.{AreStepsInOneWeather, IsDifferenceStep, AreFlowsApart, known_differences}

-- A branch of the cell of this number to a known head of 0, over a conductance from 0 to what is at least `own`.
pub record IsOpenBranch (s id : ℕ) (own : Ratio) (p : Fixed) : Type 0 where
  pub kind : p.kind ≡ General
  pub source : p.source ≡ id
  pub conductance : Encloses 0 p.hi s own
  pub lo : p.lo ≡ 0
  pub head : (p.head_lo ≡ pos 0) × (p.head_hi ≡ pos 0)

-- The bounds p enclose what the cells x and y of two plans have in common and apart, and the flows qs, and have such a branch for each ramp.
pub record BoundsDifferences (s : ℕ) (p : Entries) (qs : List ExactFlow) (x y : ExactCell) : Type 0 where
  pub id : p.id ≡ x.id
  pub flows : AllZip (FlowEncloses s) p.flows qs
  pub links : AllZip (LinkEncloses s) p.links x.links
  pub known : List Fixed
  pub of_rivers : List Fixed
  pub of_drains : List Fixed
  pub of_evaps : List Fixed
  pub fixed : p.fixed ≡ known ++ (of_rivers ++ (of_drains ++ of_evaps))
  pub known_heads : AllZip (FixedEncloses s) known (known_differences x.fixed y.fixed)
  pub rivers : AllZip (λ r. IsOpenBranch s x.id r.conductance) x.rivers of_rivers
  pub drains : AllZip (λ r. IsOpenBranch s x.id r.conductance) x.drains of_drains
  pub evaps : AllZip (λ r. IsOpenBranch s x.id r.conductance) x.evaps of_evaps
  pub no_ramps : (p.rivers ≡ []) × (p.drains ≡ []) × (p.evaps ≡ [])

-- The problem p bounds the differences of the steps e and f, in whatever weather these two are; qs c are the flows that the base
-- plan has more at cell c.
pub record BoundsDifferencesOf (s : ℕ) (p : List Entries) (qs : ℕ → List ExactFlow) (e f : List ExactCell) : Type 0 where
  pub as_many : (length p ≡ length e) × (length f ≡ length e)
  pub cells : (c : ℕ) → c < length e → BoundsDifferences s (entries_at p c) (qs c) (cell_at e c) (cell_at f c)
  pub apart : (c : ℕ) → c < length e → AreFlowsApart (qs c) (cell_at e c) (cell_at f c)
  pub ends : HasEqualEnds e

-- Such a problem encloses the step of the differences at any heads of the two plans.
abbrev pub EnclosesDifferences : Type 0
EnclosesDifferences =
    (s : ℕ) (p : List Entries) (d : ℕ) (X Y : ℕ → ℤ) (qs : ℕ → List ExactFlow) (e f g : List ExactCell) → BoundsDifferencesOf s p qs e f →
    IsDifferenceStep d X Y qs e f g → EnclosesStep s p g

-- The steps of two plans in one weather, and a solution of each over d.
pub record AreSolvedInOneWeather (e f : List ExactCell) (d : ℕ) (X Y : ℕ → ℤ) : Type 0 where
  pub weather : AreStepsInOneWeather e f
  pub some : 0 < d
  pub base : SolvesStep e d X
  pub other : SolvesStep f d Y

-- Heads l and u that enclose all solutions of the steps that such a problem encloses, as a barrier does and a certificate over
-- it, enclose the differences of the two plans' solutions.
abbrev pub SolutionsBoundDifferences : Type 0
SolutionsBoundDifferences =
    (s : ℕ) (p : List Entries) (l u : ℕ → ℤ) (qs : ℕ → List ExactFlow) (e f : List ExactCell) (d : ℕ) (X Y : ℕ → ℤ) →
    BoundsDifferencesOf s p qs e f → AreSolvedInOneWeather e f d X Y → EnclosesSolutions p l u → LiesBetween (length p) d (λ c. X c -ℤ Y c) l u
