-- The exact step of the differences of two plans' heads in the same weather. All flows of a step are linear in its heads but
-- those of rivers, drains and evapotranspirations (TM 6-A16, chapters 2 and 6), so the difference of two solutions solves a
-- step of the same kind, in which these are branches to a known head of 0. All values are fractions.
use Rattle.std.specs.Prelude.{ℕ, ℤ, pos, ◌-ℤ◌, ◌<◌, ◌≡◌, List, [], ◌∷◌, ◌++◌, length}
use Rattle.std.specs.List.{AllZip}
use Rattle.decimal_input.specs.{Fraction, Ratio, fraction_total, whole, Fractions.Same, Ratios.AtMost}
use Rattle.step_problem.specs.declared.entry.FixedKind.TheVariants.{General}
use Rattle.cell_balance.specs.{ExactCell, ExactFixed, ExactFlow, SolvesStep, cell_at, drain_flow, evap_flow, fixed_flow, minus, river_flow, share}

-- Two cells in the same weather: all is the same but constant flows, and the heads of branches to known heads (the old heads, over storage).
pub record AreInOneWeather (x y : ExactCell) : Type 0 where
  pub links : y.links ≡ x.links
  pub known : AllZip (λ p q. q.conductance ≡ p.conductance) x.fixed y.fixed
  pub rivers : y.rivers ≡ x.rivers
  pub drains : y.drains ≡ x.drains
  pub evaps : y.evaps ≡ x.evaps

-- The steps e of the base plan and f of the other one.
pub record AreStepsInOneWeather (e f : List ExactCell) : Type 0 where
  pub as_many : length f ≡ length e
  pub cells : (c : ℕ) → c < length e → AreInOneWeather (cell_at e c) (cell_at f c)

-- The flows qs sum to the constant flow that cell x gets more than cell y: they may be the flows of the wells that the other plan adds, turned round.
pub record AreFlowsApart (qs : List ExactFlow) (x y : ExactCell) : Type 0 where
  pub same : Same (fraction_total (λ q. q.flow) qs) (minus (fraction_total (λ q. q.flow) x.flows) (fraction_total (λ q. q.flow) y.flows))

-- A branch to a known head, over the same conductance to the difference of the two plans' heads there: 0 for a constant or a
-- general head, which is the same in both plans, and the old difference for storage.
abbrev pub known_difference : ExactFixed → ExactFixed → ExactFixed
known_difference p q = record { kind = p.kind; source = p.source; conductance = p.conductance; head = minus p.head q.head }

abbrev pub known_differences : List ExactFixed → List ExactFixed → List ExactFixed
known_differences [] qs = []
known_differences (p ∷ ps) [] = []
known_differences (p ∷ ps) (q ∷ qs) = known_difference p q ∷ known_differences ps qs

-- A river, a drain or an evapotranspiration of conductance `own`, which gives the cell of this number `gives` in the base plan
-- and `other` in the other one: what it gives more, as a branch to a known head of 0 at the heads' difference z, over a
-- conductance from 0 to its own. Where the two heads are the same, any conductance will do.
pub record IsRampBranch (id : ℕ) (z : Fraction) (own : Ratio) (gives other : Fraction) (b : ExactFixed) : Type 0 where
  pub kind : b.kind ≡ General
  pub source : b.source ≡ id
  pub head : b.head ≡ whole (pos 0)
  pub at_most : AtMost b.conductance own
  pub same : Same (minus gives other) (fixed_flow z b)

-- g is the differences' cell of the base plan's cell x at the head v and of the other plan's cell y at the head w, whose
-- difference is z, with the flows qs.
pub record IsDifferenceCell (v w z : Fraction) (qs : List ExactFlow) (x y g : ExactCell) : Type 0 where
  pub id : g.id ≡ x.id
  pub flows : g.flows ≡ qs
  pub links : g.links ≡ x.links
  pub of_rivers : List ExactFixed
  pub of_drains : List ExactFixed
  pub of_evaps : List ExactFixed
  pub fixed : g.fixed ≡ known_differences x.fixed y.fixed ++ (of_rivers ++ (of_drains ++ of_evaps))
  pub rivers : AllZip (λ r. IsRampBranch x.id z r.conductance (river_flow v r) (river_flow w r)) x.rivers of_rivers
  pub drains : AllZip (λ r. IsRampBranch x.id z r.conductance (drain_flow v r) (drain_flow w r)) x.drains of_drains
  pub evaps : AllZip (λ r. IsRampBranch x.id z r.conductance (evap_flow v r) (evap_flow w r)) x.evaps of_evaps
  pub no_ramps : (g.rivers ≡ []) × (g.drains ≡ []) × (g.evaps ≡ [])

-- g is the step of the differences X - Y over d of the heads X in the base plan's step e and Y in the other plan's step f,
-- with the flows qs c at cell c.
pub record IsDifferenceStep (d : ℕ) (X Y : ℕ → ℤ) (qs : ℕ → List ExactFlow) (e f g : List ExactCell) : Type 0 where
  pub as_many : length g ≡ length e
  pub cells : (c : ℕ) → c < length e →
      IsDifferenceCell (share d (X c)) (share d (Y c)) (share d (X c -ℤ Y c)) (qs c) (cell_at e c) (cell_at f c) (cell_at g c)

-- At any heads of two plans there is such a step, with any flows.
abbrev pub DifferenceStepExists : Type 0
DifferenceStepExists = (d : ℕ) (X Y : ℕ → ℤ) (qs : ℕ → List ExactFlow) (e f : List ExactCell) → 0 < d → (g : List ExactCell) × IsDifferenceStep d X Y qs e f g

-- Where the flows are what the base plan has more, the difference of two plans' solutions solves it.
abbrev pub DifferenceSolvesIt : Type 0
DifferenceSolvesIt =
    (d : ℕ) (X Y : ℕ → ℤ) (qs : ℕ → List ExactFlow) (e f g : List ExactCell) → 0 < d → AreStepsInOneWeather e f →
    ((c : ℕ) → c < length e → AreFlowsApart (qs c) (cell_at e c) (cell_at f c)) → IsDifferenceStep d X Y qs e f g →
    SolvesStep e d X → SolvesStep f d Y → SolvesStep g d (λ c. X c -ℤ Y c)
