-- What the sources of a plan enclose: what each term gives more with the plan's wells than without them, in a time step of two plans in one weather.
use Rattle.std.specs.Prelude.{◌≡◌, ℕ, ◌+◌, ◌<◌, ℤ, ◌-ℤ◌, All, Bool, true, false, List, length}
use Rattle.std.specs.List.{AllZip}
use Rattle.decimal_input.specs.{EnclosesSigned, Fraction, fraction_total}
use Rattle.step_problem.specs.{declared.heads.Bound.Bound, declared.place.Dir.TheVariants.In, declared.place.Dir.TheVariants.Out, declared.place.Term.Term}
use Rattle.step_problem.specs.{declared.place.Term.TheVariants.Wells, declared.place.Term.TheVariants.Recharge, declared.place.ZoneFlow.ZoneFlow}
use Rattle.step_problem.specs.{Entries.Entries}
use Rattle.cell_balance.specs.{AreLinked, ExactCell, ExactFixed, ExactFlow, LiesBetween, SolvesStep, cell_at, minus, share, total_below}
use Rattle.budget_bounds.specs.{declared.pair.TermPair.TermPair, exact_singles}
use Rattle.plan_step.specs.{IsDifferenceProblem, AreTwoPlans}
use Rattle.plan_gains.specs.{net_of, source, term_gain}
use Rattle.zone_flows.specs.{EncloseEveryStep, HeadsLieWithin, exact_flow, exact_faces}

-- the terms that are listed
abbrev pub is_listed : Term → Bool
is_listed Wells = false
is_listed Recharge = false
is_listed t = true

-- what a term gives the variable cells, in less out, where the variable cell of index c has the head h c: the sum of its single flows
abbrev pub net : List ExactCell → (ℕ → Fraction) → Term → Fraction
net e h t = total_below (length e) (λ c. fraction_total (λ q. q) (exact_singles t (cell_at e c) (h c)))

-- what a term gives more in the step f at the heads Y over d than in the step e at the heads X
abbrev pub more_net : List ExactCell → List ExactCell → ℕ → (ℕ → ℤ) → (ℕ → ℤ) → Term → Fraction
more_net e f d X Y t = minus (net f (λ c. share d (Y c)) t) (net e (λ c. share d (X c)) t)

-- the sums of a term, by its branches
abbrev pub sum_by_branches : List Entries → List Entries → (ℕ → ℤ) → (ℕ → ℤ) → Term → TermPair
sum_by_branches base p l u t = net_of (term_gain base p l u In t) (term_gain base p l u Out t)

-- a branch to a known head of both plans
pub record IsSameBranch (p q : ExactFixed) : Type 0 where
  pub kind : q.kind ≡ p.kind
  pub source : q.source ≡ p.source

-- both plans have the same cells, and branches to the same known heads
pub record AreOneNetwork (e f : List ExactCell) : Type 0 where
  pub ids : (c : ℕ) → c < length e → (cell_at f c).id ≡ (cell_at e c).id
  pub branches : (c : ℕ) → c < length e → AllZip IsSameBranch (cell_at e c).fixed (cell_at f c).fixed

-- Two plans at one step in one weather, and their solutions over d, by the index of the variable cell.
pub record AreTwoSolutions (s : ℕ) (base planned : List Entries) (xs ys olds : List Bound) (added : ℕ → List ExactFlow) (e f : List ExactCell)
    (d : ℕ) (X Y : ℕ → ℤ) : Type 0 where
  pub plans : AreTwoPlans s base planned xs ys olds added e f d X Y
  pub network : AreOneNetwork e f
  pub linked : AreLinked e
  pub base_solved : SolvesStep e d X
  pub planned_solved : SolvesStep f d Y

-- Where the differences of the heads lie between l and u, what each listed term gives more lies within its source, whatever the weather.
abbrev pub SourcesEnclose : Type 0
SourcesEnclose =
    (s : ℕ) (base planned p : List Entries) (xs ys olds : List Bound) (added : ℕ → List ExactFlow) (e f : List ExactCell) (d : ℕ) (X Y l u : ℕ → ℤ) →
    IsDifferenceProblem base planned xs ys olds p → AreTwoSolutions s base planned xs ys olds added e f d X Y →
    LiesBetween (length p) d (λ c. X c -ℤ Y c) l u → (t : Term) → is_listed t ≡ true →
    EnclosesSigned (source (sum_by_branches base p l u) t).lo (source (sum_by_branches base p l u) t).hi (s + 9) (more_net e f d X Y t)

-- what flows more from zone a to zone b in the step f at the heads Y over d than in the step e at the heads X, by cell number
abbrev pub more_flow : List ℕ → List ExactCell → List ExactCell → ℕ → (ℕ → ℤ) → (ℕ → ℤ) → ℕ → ℕ → Fraction
more_flow zones e f d X Y a b = minus (exact_flow a b (exact_faces zones (λ c. share d (Y c)) f)) (exact_flow a b (exact_faces zones (λ c. share d (X c)) e))

-- Flows that enclose those of each step that the problem encloses, at all heads between low and high, enclose what flows more between zones, where the
-- heads rise so.
abbrev pub ZonesEnclose : Type 0
ZonesEnclose =
    (s : ℕ) (base planned p : List Entries) (xs ys olds : List Bound) (added : ℕ → List ExactFlow) (e f : List ExactCell) (d : ℕ) (X Y : ℕ → ℤ)
    (zones : List ℕ) (low high : ℕ → ℤ) (vs : List ZoneFlow) → IsDifferenceProblem base planned xs ys olds p →
    AreTwoSolutions s base planned xs ys olds added e f d (λ c. X (cell_at e c).id) (λ c. Y (cell_at f c).id) → EncloseEveryStep p zones low high vs →
    HeadsLieWithin p low high (λ c. share d (Y c -ℤ X c)) → All (λ v. EnclosesSigned v.lo v.hi (s + 9) (more_flow zones e f d X Y v.from v.to)) vs
