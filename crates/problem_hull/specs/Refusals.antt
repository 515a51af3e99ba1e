-- Why two problems have no hull that is a problem.
use Rattle.std.specs.Prelude.{◌≡◌, ℕ, ◌^◌, nat_le, cond, List, [], ◌∷◌, Option, Some, None}
use Rattle.std.specs.Option.{option_map, option_or}
use Rattle.step_problem.specs.{declared.heads.Side.TheVariants.Low, declared.place.NoBound.NoBound, declared.place.Place.TheVariants.Cell}
use Rattle.step_problem.specs.{declared.refusal.StepRefusal.TheVariants.ConductanceTooLarge, declared.refusal.StepRefusal.TheVariants.FlowTooLarge, number_of}
use Rattle.step_problem.specs.{conductance_of, flow_magnitude, IsProblem, Entries.Entries}
use Rattle.problem_hull.specs.declared.problem.HullFault.{HullFault}
use Rattle.problem_hull.specs.declared.problem.HullFault.TheVariants.{NotAlike, NoBound as Refused, Memory}
use Rattle.problem_hull.specs.Hulls.{AreAlike, IsHull, cell_hull, zip_with}

-- the number of the first sum of a cell that is too large: 22 of its upper conductances, 23 of its constant and deep flows
unfoldable pub sum_refusal : Entries → Option ℕ
sum_refusal c =
    cond (nat_le (2 ^ 60) (conductance_of c)) (Some (number_of ConductanceTooLarge))
    (cond (nat_le (2 ^ 109) (flow_magnitude c)) (Some (number_of FlowTooLarge)) None)

-- the refusal of a cell by this number
abbrev pub refusal_at : Entries → ℕ → NoBound
refusal_at c code = record { code = code; place = Cell c.id Low }

-- the refusal of the first of these cells that has one
abbrev pub first_refusal : List Entries → Option NoBound
first_refusal [] = None
first_refusal (c ∷ cs) = option_or (option_map (refusal_at c) (sum_refusal c)) (first_refusal cs)

-- the two problems have a hull, and its first refusal is this one
pub record IsTooLarge (p q : List Entries) (refusal : NoBound) : Type 0 where
  pub alike : AreAlike p q
  pub first : first_refusal (zip_with cell_hull p q) ≡ Some refusal

-- lack of memory is possible at any time
abbrev pub IsHullFault : List Entries → List Entries → HullFault → Type 0
IsHullFault p q NotAlike = AreAlike p q → ⊥
IsHullFault p q (Refused refusal) = IsTooLarge p q refusal
IsHullFault p q Memory = Unit {0}

-- why there is no list of hulls of items: their shapes are not the same, or lack of memory
abbrev pub IsUnlike : Type 0 → HullFault → Type 0
IsUnlike alike NotAlike = alike → ⊥
IsUnlike alike (Refused refusal) = ⊥
IsUnlike alike Memory = Unit {0}

-- the hull of a problem and itself is that problem
abbrev pub HullOfOne : Type 0
HullOfOne = (p : List Entries) → IsHull p p p

-- two problems whose hull is a problem have no refusal
abbrev pub HullExcludesRefusal : Type 0
HullExcludesRefusal = (p q r : List Entries) (refusal : NoBound) → IsHull p q r → IsProblem r → IsTooLarge p q refusal → ⊥
