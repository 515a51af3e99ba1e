-- Laws of exact balances, and the comparison of bounds with solutions. Heads are whole numerators over one denominator d.
use Rattle.std.specs.Prelude.{◌≡◌, ℕ, ◌<◌, List, length, All, Bool, true, ℤ, pos, ◌≤ℤ◌, ◌+◌, ◌*ℤ◌, ◌<ℤ◌}
use Rattle.decimal_input.specs.{fraction_total, Fraction, as_fraction, opposite, EnclosesSigned}
use Rattle.decimal_input.specs.Fractions.{AtMost, den, times, Same}
use Rattle.step_problem.specs.{Entries.Entries, IsProblem, Edges, head_at, IsCertificate, link_flow as link_bound, fixed_flow as fixed_bound}
use Rattle.step_problem.specs.{river_flow as river_bound, drain_flow as drain_bound, evap_flow as evap_bound, declared.heads.Side.TheVariants.Low}
use Rattle.step_problem.specs.{declared.heads.Side.TheVariants.High, declared.entry.Link.Link, declared.entry.Fixed.Fixed, declared.entry.River.River}
use Rattle.step_problem.specs.{declared.entry.Drain.Drain, declared.entry.Evap.Evap}
use Rattle.cell_balance.specs.Steps.{ExactCell, cell_at, AreLinked, ExactLink, ExactFixed, ExactRiver, ExactDrain, ExactEvap}
use Rattle.cell_balance.specs.Balance.{link_flow, balance, share, SolvesStep, LiesBetween, minus, fixed_flow, river_flow, drain_flow, evap_flow, total_inside}
use Rattle.cell_balance.specs.Balance.{IsClosed, deep_flow, LiesBelow, deep_river, full_rate}
use Rattle.cell_balance.specs.Enclosures.{EnclosesStep, LinkEncloses, FixedEncloses, RiverEncloses, DrainEncloses, EvapEncloses, IsHeldBelow}

-- over a set of cells closed under links, the flows over links cancel
abbrev pub LinksCancel : Type 0
LinksCancel =
    (e : List ExactCell) (inside : ℕ → Bool) (d : ℕ) (X : ℕ → ℤ) → AreLinked e → IsClosed e inside → 0 < d →
    (total_inside (length e) inside (λ c. fraction_total (link_flow (λ k. share d (X k)) (share d (X c))) (cell_at e c).links)).num ≡ pos 0

-- a balance falls weakly in its own head
abbrev pub BalanceFalls : Type 0
BalanceFalls =
    (c : ExactCell) (d : ℕ) (v w : ℤ) (X : ℕ → ℤ) → 0 < d → v ≤ℤ w →
    AtMost (balance c (share d w) (λ k. share d (X k))) (balance c (share d v) (λ k. share d (X k)))

-- a balance rises weakly in the head at the other end of each of its links
abbrev pub BalanceRises : Type 0
BalanceRises =
    (c : ExactCell) (d : ℕ) (v : ℤ) (X Z : ℕ → ℤ) → 0 < d → All (λ x. X x.cell ≤ℤ Z x.cell) c.links →
    AtMost (balance c (share d v) (λ k. share d (X k))) (balance c (share d v) (λ k. share d (Z k)))

-- The dry law: over a set of cells closed under links, each of whose heads lies at or below every fixed head, bottom
-- and elevation there that conducts, the balances sum to at least the deep flows.
abbrev pub DryLaw : Type 0
DryLaw =
    (e : List ExactCell) (inside : ℕ → Bool) (d : ℕ) (X : ℕ → ℤ) → AreLinked e → IsClosed e inside → 0 < d →
    ((c : ℕ) → c < length e → inside c ≡ true → LiesBelow (share d (X c)) (cell_at e c)) →
    AtMost (total_inside (length e) inside (λ c. deep_flow (cell_at e c)))
    (total_inside (length e) inside (λ c. balance (cell_at e c) (share d (X c)) (λ k. share d (X k))))

-- The premises of the comparison: a problem whose components are each anchored or carried, a certificate over a
-- barrier, an exact step that the problem encloses, and a solution of it that the barrier encloses.
pub record IsComparable (p : List Entries) (b : Edges) (l u : ℕ → ℤ) (s : ℕ) (e : List ExactCell) (d : ℕ) (X : ℕ → ℤ) : Type 0 where
  pub problem : IsProblem p
  pub held : IsHeldBelow p
  pub certificate : IsCertificate p b l u
  pub encloses : EnclosesStep s p e
  pub some : 0 < d
  pub solves : SolvesStep e d X
  pub barrier : LiesBetween (length p) d X (head_at b.floor) (head_at b.ceiling)

-- The comparison: a certificate encloses every solution that its barrier encloses, on both sides, however its heads were found.
abbrev pub Compares : Type 0
Compares =
    (p : List Entries) (b : Edges) (l u : ℕ → ℤ) (s : ℕ) (e : List ExactCell) (d : ℕ) (X : ℕ → ℤ) →
    IsComparable p b l u s e d X → LiesBetween (length p) d X l u

-- The manual's rules of single flows into a cell, and that the bounds of a flow enclose it.
-- f < g
pub record IsBelow (f g : Fraction) : Type 0 where
  pub below : (f.num *ℤ pos (den g)) <ℤ (g.num *ℤ pos (den f))

-- C * (f - g)
abbrev pub over_difference : Fraction → Fraction → Fraction → Fraction
over_difference c f g = times c (minus f g)

-- a known head above the cell's gives water, one below takes it
pub record FixedLaws (v : Fraction) (x : ExactFixed) : Type 0 where
  pub gives : 0 < x.conductance.num → IsBelow v x.head → pos 0 <ℤ (fixed_flow v x).num
  pub takes : 0 < x.conductance.num → IsBelow x.head v → (fixed_flow v x).num <ℤ pos 0

-- a river takes water where the head is above its stage, gives C * (stage - head) above its bottom and the constant C * (stage - bottom) below it
pub record RiverLaws (v : Fraction) (x : ExactRiver) : Type 0 where
  pub takes : 0 < x.conductance.num → IsBelow x.stage v → (river_flow v x).num <ℤ pos 0
  pub above : AtMost x.bottom v → Same (river_flow v x) (over_difference (as_fraction x.conductance) x.stage v)
  pub below : AtMost v x.bottom → Same (river_flow v x) (deep_river x)

-- a drain never gives water, takes none at or below its elevation, and takes C * (head - elevation) above it
pub record DrainLaws (v : Fraction) (x : ExactDrain) : Type 0 where
  pub never_gives : (drain_flow v x).num ≤ℤ pos 0
  pub below : AtMost v x.elevation → (drain_flow v x).num ≡ pos 0
  pub above : AtMost x.elevation v → Same (drain_flow v x) (over_difference (as_fraction x.conductance) x.elevation v)

-- an evapotranspiration takes between nothing and its full rate: nothing at or below the extinction elevation, the
-- full rate at or above the surface, and in proportion between
pub record EvapLaws (v : Fraction) (x : ExactEvap) : Type 0 where
  pub never_gives : (evap_flow v x).num ≤ℤ pos 0
  pub at_most_full : AtMost (opposite (full_rate x)) (evap_flow v x)
  pub below : AtMost v x.extinction → (evap_flow v x).num ≡ pos 0
  pub between : AtMost x.extinction v → AtMost v x.surface → Same (evap_flow v x) (over_difference (as_fraction x.conductance) x.extinction v)
  pub above : AtMost x.surface v → Same (evap_flow v x) (opposite (full_rate x))

pub record FlowsAreRight : Type 0 where
  pub fixed : (v : Fraction) (x : ExactFixed) → FixedLaws v x
  pub rivers : (v : Fraction) (x : ExactRiver) → RiverLaws v x
  pub drains : (v : Fraction) (x : ExactDrain) → DrainLaws v x
  pub evaps : (v : Fraction) (x : ExactEvap) → EvapLaws v x

-- Where a cell's head lies between l and u, in units of 10^-9, and the head at the other end of a link between L and
-- U, each exact flow lies between the lower flow at u and the upper flow at l. For storage this takes the old head's
-- lower bound on the one side and its upper bound on the other.
pub record FlowsAreEnclosed (s : ℕ) (v : Fraction) (l u : ℤ) : Type 0 where
  pub links : (p : Link) (x : ExactLink) (h : ℕ → Fraction) (L U : ℕ → ℤ) → LinkEncloses s p x →
      EnclosesSigned (L x.cell) (U x.cell) 9 (h x.cell) →
      EnclosesSigned (link_bound Low L u p) (link_bound High U l p) (s + 9) (link_flow h v x)
  pub fixed : (p : Fixed) (x : ExactFixed) → FixedEncloses s p x → EnclosesSigned (fixed_bound Low u p) (fixed_bound High l p) (s + 9) (fixed_flow v x)
  pub rivers : (p : River) (x : ExactRiver) → RiverEncloses s p x → EnclosesSigned (river_bound Low u p) (river_bound High l p) (s + 9) (river_flow v x)
  pub drains : (p : Drain) (x : ExactDrain) → DrainEncloses s p x → EnclosesSigned (drain_bound Low u p) (drain_bound High l p) (s + 9) (drain_flow v x)
  pub evaps : (p : Evap) (x : ExactEvap) → EvapEncloses s p x → EnclosesSigned (evap_bound Low u p) (evap_bound High l p) (s + 9) (evap_flow v x)

abbrev pub BoundsHold : Type 0
BoundsHold = (s : ℕ) (v : Fraction) (l u : ℤ) → EnclosesSigned l u 9 v → FlowsAreEnclosed s v l u
