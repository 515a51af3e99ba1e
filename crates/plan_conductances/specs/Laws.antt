-- The drawdown of a single well at its own cell falls as any conductance grows (Rayleigh's law of effective resistance).
use Rattle.std.specs.Prelude.{ℕ, ◌<◌, ℤ, pos, ◌-ℤ◌, ◌<ℤ◌, List}
use Rattle.decimal_input.specs.{Fraction, Fractions.AtMost}
use Rattle.cell_balance.specs.{ExactCell, SolvesStep, share}
use Rattle.plan_conductances.specs.OneWell.{ConductsAtMost, DifferByAWell, IsOfOneWell}

-- X over d and Y over k solve the steps e and f of a single well of flow q at cell w, and nothing in e conducts more than in f.
pub record AreStepsOfAWell (w : ℕ) (q : Fraction) (e f : List ExactCell) (d k : ℕ) (X Y : ℕ → ℤ) : Type 0 where
  pub takes : pos 0 <ℤ q.num
  pub less : IsOfOneWell w q e
  pub more : IsOfOneWell w q f
  pub conducts : ConductsAtMost e f
  pub some : (0 < d) × (0 < k)
  pub solves : SolvesStep e d X × SolvesStep f k Y

-- Where more is conducted the well changes its own cell's head by no more.
abbrev pub DrawdownFalls : Type 0
DrawdownFalls = (w : ℕ) (q : Fraction) (e f : List ExactCell) (d k : ℕ) (X Y : ℕ → ℤ) → AreStepsOfAWell w q e f d k X Y → AtMost (share k (Y w)) (share d (X w))

-- X and Y over d solve the steps e and f of two plans that differ by a well that takes q from cell w.
pub record ArePlansOfAWell (w : ℕ) (q : Fraction) (e f : List ExactCell) (d : ℕ) (X Y : ℕ → ℤ) : Type 0 where
  pub takes : pos 0 <ℤ q.num
  pub apart : DifferByAWell w q e f
  pub some : 0 < d
  pub base : SolvesStep e d X
  pub planned : SolvesStep f d Y

-- U over j solves the step of the same well where nothing conducts more than in e, its rivers, drains and evapotranspirations left out.
pub record BoundsFromAbove (w : ℕ) (q : Fraction) (e low : List ExactCell) (j : ℕ) (U : ℕ → ℤ) : Type 0 where
  pub well : IsOfOneWell w q low
  pub conducts : ConductsAtMost low e
  pub some : 0 < j
  pub solves : SolvesStep low j U

-- L over k solves the step of the same well where nothing conducts less, these being branches to a known head.
pub record BoundsFromBelow (w : ℕ) (q : Fraction) (e high : List ExactCell) (k : ℕ) (L : ℕ → ℤ) : Type 0 where
  pub well : IsOfOneWell w q high
  pub conducts : ConductsAtMost e high
  pub some : 0 < k
  pub solves : SolvesStep high k L

-- The drawdown at the well, in whatever weather, lies between the two: for all conductances between theirs, link by link.
abbrev pub WellLiesBetween : Type 0
WellLiesBetween =
    (w : ℕ) (q : Fraction) (e f low high : List ExactCell) (d j k : ℕ) (X Y U L : ℕ → ℤ) → ArePlansOfAWell w q e f d X Y → BoundsFromAbove w q e low j U →
    BoundsFromBelow w q e high k L → AtMost (share k (L w)) (share d (X w -ℤ Y w)) × AtMost (share d (X w -ℤ Y w)) (share j (U w))
