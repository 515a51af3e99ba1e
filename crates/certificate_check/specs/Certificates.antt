-- Where a certificate holds, and the first place where it fails.
use Rattle.std.specs.Prelude.{◌≡◌, ℕ, ◌<◌, ◌⊎◌, List, length, pos, ◌≤ℤ◌, ℤ, neg_ℤ}
use Rattle.step_problem.specs.{declared.heads.Bound.Bound, declared.heads.Side.Side, declared.heads.Side.TheVariants.Low, declared.heads.Side.TheVariants.High}
use Rattle.step_problem.specs.{declared.place.NoBound.NoBound, Entries.Entries, entries_at, lower_balance, upper_balance, Edges, head_at, lower_at, upper_at}
use Rattle.step_problem.specs.{IsBarrier, IsSettledPair, IsCertificate, IsProblem, head_limit, bound_on}
use Rattle.barrier_vector.specs.{range_on, Refuses, EnclosesUncut, clamped_edges, IsOutOfRange}
use Rattle.certificate_check.specs.{declared.Verdict.Verdict, declared.Verdict.TheVariants.Yes, declared.Verdict.TheVariants.No}
use Rattle.cell_relax.specs.{AreWords}
use Rattle.cell_balance.specs.{IsHeldBelow, ExactCell, EnclosesStep, EnclosesSolutions, SolvesStep, LiesBetween}

module _ (p : List Entries) (b : Edges) (bounds : List Bound) where
  -- The certificate holds at that side of cell c: its lower head is at most the floor, or its lower balance is not negative; the upper side mirrored.
  abbrev pub HoldsAt : ℕ → Side → Type 0
  HoldsAt c Low = (lower_at bounds c ≤ℤ head_at b.floor c) ⊎ (pos 0 ≤ℤ lower_balance (entries_at p c) (lower_at bounds c) (lower_at bounds))
  HoldsAt c High = (head_at b.ceiling c ≤ℤ upper_at bounds c) ⊎ (upper_balance (entries_at p c) (upper_at bounds c) (upper_at bounds) ≤ℤ pos 0)

  -- It fails at that side of cell c, and nowhere before: the least cell, its lower side first.
  pub record IsFirstFailing (c : ℕ) (side : Side) : Type 0 where
    pub within : c < length p
    pub fails : HoldsAt c side → ⊥
    pub least : (d : ℕ) → d < c → (s : Side) → HoldsAt d s
    pub low_first : side ≡ High → HoldsAt c Low

-- RangeLow, RangeHigh: some lower head, or some upper head, fails the certificate over the cut barrier b. Where the heads settled from it, that head can't
-- leave the end of the range of heads.
abbrev pub IsRangeRefusal : List Entries → Edges → List Bound → NoBound → Type 0
IsRangeRefusal p b bounds = Refuses range_on (λ side c. HoldsAt p b bounds c side → ⊥) p

-- Facts of a verdict.
abbrev pub IsYes : Verdict → Type 0
IsYes Yes = Unit {0}
IsYes (No cell side) = ⊥

-- a fact of the place that a No names
abbrev pub IfNo : Verdict → (ℕ → Side → Type 0) → Type 0
IfNo Yes P = Unit {0}
IfNo (No cell side) P = P cell side

-- What certificates enclose, and where they can fail.
-- The settled pair over a barrier that encloses every solution encloses every solution, where each component of the problem is anchored or carried.
abbrev pub SettledPairEncloses : Type 0
SettledPairEncloses =
    (p : List Entries) (b : Edges) (l u : ℕ → ℤ) → IsProblem p → IsBarrier p b → IsHeldBelow p → IsSettledPair p b l u →
    EnclosesSolutions p (head_at b.floor) (head_at b.ceiling) → EnclosesSolutions p l u

-- Words that are a certificate over a cut barrier enclose every solution, where each component is anchored or carried: no head is at a bound that was cut.
abbrev pub CertificateEncloses : Type 0
CertificateEncloses =
    (p : List Entries) (b : Edges) (words : List Bound) → IsProblem p → AreWords p words → IsHeldBelow p →
    IsCertificate p b (lower_at words) (upper_at words) → EnclosesUncut p b → EnclosesSolutions p (lower_at words) (upper_at words)

-- the floor of cell c lies below all heads, or its ceiling above all of them
abbrev pub IsCutAt : Edges → ℕ → Side → Type 0
IsCutAt b c side = IsOutOfRange side (bound_on side (head_at b.floor c) (head_at b.ceiling c))

-- Words that are a certificate over the clamped barrier are one over the cut barrier, but perhaps at the cells whose floor or ceiling was cut.
abbrev pub FailsOnlyWhereCut : Type 0
FailsOnlyWhereCut =
    (p : List Entries) (b : Edges) (words : List Bound) → IsCertificate p (clamped_edges b) (lower_at words) (upper_at words) →
    (c : ℕ) (side : Side) → c < length p → (IsCutAt b c side → ⊥) → HoldsAt p b words c side

-- Words that are a certificate over the cut barrier have no refusal for the range of heads.
abbrev pub CertificateExcludesRefusal : Type 0
CertificateExcludesRefusal =
    (p : List Entries) (b : Edges) (words : List Bound) (n : NoBound) → IsCertificate p b (lower_at words) (upper_at words) → IsRangeRefusal p b words n → ⊥

-- Words have at most one such refusal.
abbrev pub RangeRefusalIsOne : Type 0
RangeRefusalIsOne = (p : List Entries) (b : Edges) (words : List Bound) (n m : NoBound) → IsRangeRefusal p b words n → IsRangeRefusal p b words m → n ≡ m

-- The settled pair over the clamped barrier encloses every solution whose heads are in the range of heads, also where it is refused.
abbrev pub ClampedPairEncloses : Type 0
ClampedPairEncloses =
    (p : List Entries) (b : Edges) (l u : ℕ → ℤ) → IsProblem p → IsBarrier p (clamped_edges b) → IsHeldBelow p → EnclosesUncut p b →
    IsSettledPair p (clamped_edges b) l u →
    (s : ℕ) (e : List ExactCell) (d : ℕ) (X : ℕ → ℤ) → EnclosesStep s p e → 0 < d → SolvesStep e d X →
    LiesBetween (length p) d X (λ c. neg_ℤ (pos head_limit)) (λ c. pos head_limit) → LiesBetween (length p) d X l u
