-- When an exact step lies between two others: each number of its equations lies between those of the two at its place.
use Rattle.std.specs.Prelude.{◌≡◌, ◌⊎◌, [], ◌∷◌, List}
use Rattle.decimal_input.specs.{Fraction, Ratio, Fractions.AtMost, Ratios.AtMost as IsRatioAtMost}
use Rattle.cell_balance.specs.{ExactFlow, ExactFixed, ExactRiver, ExactDrain, ExactEvap, ExactCell}

-- When a number lies between two others, whichever of these is the greater one.
-- a ≤ m ≤ b, or b ≤ m ≤ a, by the order Le
pub record LiesBetween {X : Type 0} (Le : X → X → Type 0) (a m b : X) : Type 0 where
  pub lies : (Le a m × Le m b) ⊎ (Le b m × Le m a)

abbrev pub IsFractionBetween : Fraction → Fraction → Fraction → Type 0
IsFractionBetween = LiesBetween AtMost

-- the same of numbers that aren't negative
abbrev pub IsRatioBetween : Ratio → Ratio → Ratio → Type 0
IsRatioBetween = LiesBetween IsRatioAtMost

-- Three lists that are related place by place.
-- The lists are equally long, and R holds of the three items at each place.
pub data AllThree {X Y Z : Type 0} (R : X → Y → Z → Type 0) : List X → List Y → List Z → Type 0 where
  none : AllThree R [] [] []
  next : {x : X} {y : Y} {z : Z} {xs : List X} {ys : List Y} {zs : List Z} → R x y z → AllThree R xs ys zs → AllThree R (x ∷ xs) (y ∷ ys) (z ∷ zs)

-- When an exact step lies between two others: it has the same entries at the same cells, and each number that a stress
-- gives lies between those of the two. The links are the same.
pub record IsFlowBetween (a m b : ExactFlow) : Type 0 where
  pub kind : m.kind ≡ a.kind
  pub flow : IsFractionBetween a.flow m.flow b.flow

pub record IsFixedBetween (a m b : ExactFixed) : Type 0 where
  pub kind : m.kind ≡ a.kind
  pub source : m.source ≡ a.source
  pub conductance : IsRatioBetween a.conductance m.conductance b.conductance
  pub head : IsFractionBetween a.head m.head b.head

pub record IsRiverBetween (a m b : ExactRiver) : Type 0 where
  pub conductance : IsRatioBetween a.conductance m.conductance b.conductance
  pub stage : IsFractionBetween a.stage m.stage b.stage
  pub bottom : IsFractionBetween a.bottom m.bottom b.bottom

pub record IsDrainBetween (a m b : ExactDrain) : Type 0 where
  pub conductance : IsRatioBetween a.conductance m.conductance b.conductance
  pub elevation : IsFractionBetween a.elevation m.elevation b.elevation

pub record IsEvapBetween (a m b : ExactEvap) : Type 0 where
  pub conductance : IsRatioBetween a.conductance m.conductance b.conductance
  pub surface : IsFractionBetween a.surface m.surface b.surface
  pub extinction : IsFractionBetween a.extinction m.extinction b.extinction

pub record IsCellBetween (a m b : ExactCell) : Type 0 where
  pub id : m.id ≡ a.id
  pub flows : AllThree IsFlowBetween a.flows m.flows b.flows
  pub links : m.links ≡ a.links
  pub fixed : AllThree IsFixedBetween a.fixed m.fixed b.fixed
  pub rivers : AllThree IsRiverBetween a.rivers m.rivers b.rivers
  pub drains : AllThree IsDrainBetween a.drains m.drains b.drains
  pub evaps : AllThree IsEvapBetween a.evaps m.evaps b.evaps

abbrev pub IsStepBetween : List ExactCell → List ExactCell → List ExactCell → Type 0
IsStepBetween = AllThree IsCellBetween
