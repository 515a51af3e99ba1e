-- When the whole bounds of a step's problem enclose an exact step: they have the same entries at the same cells,
-- place by place, and each exact value lies between its two bounds. Conductances are known to s decimals, heads to 9,
-- flows to s + 9.
use Rattle.std.specs.Prelude.{◌≡◌, ℕ, ◌+◌, List, ◌<◌, length, ℤ, zero, suc, ◌⊎◌, Contains, Bool, true, cond, pos, ◌+ℤ◌, ◌-ℤ◌, ◌<ℤ◌}
use Rattle.std.specs.List.{AllZip}
use Rattle.decimal_input.specs.{Encloses, EnclosesSigned}
use Rattle.step_problem.specs.{declared.entry.Flow.Flow, declared.entry.Link.Link, declared.entry.Fixed.Fixed, declared.entry.River.River}
use Rattle.step_problem.specs.{declared.entry.Drain.Drain, declared.entry.Evap.Evap, Entries.Entries, declared.heads.Side.TheVariants.Low, entries_at, total}
use Rattle.step_problem.specs.{deep_river, full_rate}
use Rattle.cell_balance.specs.Steps.{ExactFlow, ExactLink, ExactFixed, ExactRiver, ExactDrain, ExactEvap, ExactCell, HasEqualEnds}
use Rattle.cell_balance.specs.Balance.{SolvesStep, LiesBetween}

module _ (s : ℕ) where
  pub record FlowEncloses (p : Flow) (e : ExactFlow) : Type 0 where
    pub kind : p.kind ≡ e.kind
    pub flow : EnclosesSigned p.lo p.hi (s + 9) e.flow

  pub record LinkEncloses (p : Link) (e : ExactLink) : Type 0 where
    pub cell : p.cell ≡ e.cell
    pub conductance : Encloses p.lo p.hi s e.conductance

  pub record FixedEncloses (p : Fixed) (e : ExactFixed) : Type 0 where
    pub kind : p.kind ≡ e.kind
    pub source : p.source ≡ e.source
    pub conductance : Encloses p.lo p.hi s e.conductance
    pub head : EnclosesSigned p.head_lo p.head_hi 9 e.head

  pub record RiverEncloses (p : River) (e : ExactRiver) : Type 0 where
    pub conductance : Encloses p.lo p.hi s e.conductance
    pub stage : EnclosesSigned p.stage_lo p.stage_hi 9 e.stage
    pub bottom : EnclosesSigned p.bottom_lo p.bottom_hi 9 e.bottom

  pub record DrainEncloses (p : Drain) (e : ExactDrain) : Type 0 where
    pub conductance : Encloses p.lo p.hi s e.conductance
    pub elevation : EnclosesSigned p.elev_lo p.elev_hi 9 e.elevation

  pub record EvapEncloses (p : Evap) (e : ExactEvap) : Type 0 where
    pub conductance : Encloses p.lo p.hi s e.conductance
    pub surface : EnclosesSigned p.surf_lo p.surf_hi 9 e.surface
    pub extinction : EnclosesSigned p.ext_lo p.ext_hi 9 e.extinction

  pub record CellEncloses (p : Entries) (e : ExactCell) : Type 0 where
    pub id : p.id ≡ e.id
    pub flows : AllZip FlowEncloses p.flows e.flows
    pub links : AllZip LinkEncloses p.links e.links
    pub fixed : AllZip FixedEncloses p.fixed e.fixed
    pub rivers : AllZip RiverEncloses p.rivers e.rivers
    pub drains : AllZip DrainEncloses p.drains e.drains
    pub evaps : AllZip EvapEncloses p.evaps e.evaps

-- The problem p encloses the exact step e.
pub record EnclosesStep (s : ℕ) (p : List Entries) (e : List ExactCell) : Type 0 where
  pub cells : AllZip (CellEncloses s) p e
  pub ends : HasEqualEnds e

-- Heads that enclose all solutions of a step.
-- Every solution of every exact step that the problem encloses lies between the heads l and u.
abbrev pub EnclosesSolutions : List Entries → (ℕ → ℤ) → (ℕ → ℤ) → Type 0
EnclosesSolutions p l u = (s : ℕ) (e : List ExactCell) (d : ℕ) (X : ℕ → ℤ) → EnclosesStep s p e → 0 < d → SolvesStep e d X → LiesBetween (length p) d X l u

-- Components of a problem by its links, and what bounds their heads from below: an anchor, or deep flows whose sum is above 0.
-- f 0 + .. + f (n - 1)
abbrev pub sum_below : ℕ → (ℕ → ℤ) → ℤ
sum_below zero f = pos 0
sum_below (suc n) f = sum_below n f +ℤ f n

-- the sum of f over the cells below n that pass the test
abbrev pub sum_inside : ℕ → (ℕ → Bool) → (ℕ → ℤ) → ℤ
sum_inside n inside f = sum_below n (λ k. cond (inside k) (f k) (pos 0))

-- The least deep flow of a cell, which it gets where its head lies below all bottoms: its constant flows and its
-- rivers at their bottoms, less its evaporations at their full rate.
abbrev pub deep_low : Entries → ℤ
deep_low c = total (λ x. x.lo) c.flows +ℤ total (deep_river Low) c.rivers -ℤ total (λ x. pos (full_rate x)) c.evaps

-- j links lead from cell a to cell b
abbrev pub LeadsTo : List Entries → ℕ → ℕ → ℕ → Type 0
LeadsTo p zero a b = a ≡ b
LeadsTo p (suc j) a b = (x : Link) × Contains (entries_at p a).links x × LeadsTo p j x.cell b

-- An anchored cell: a fixed link of it certainly conducts.
abbrev pub IsAnchored : List Entries → ℕ → Type 0
IsAnchored p c = (x : Fixed) × Contains (entries_at p c).fixed x × (0 < x.lo)

-- j links lead from cell c to an anchored cell
abbrev pub Leads : List Entries → ℕ → ℕ → Type 0
Leads p j c = (a : ℕ) × LeadsTo p j c a × IsAnchored p a

-- The test holds exactly for the component of cell c: the cells to which links lead from it.
pub record IsComponent (p : List Entries) (c : ℕ) (inside : ℕ → Bool) : Type 0 where
  pub reached : (k : ℕ) → inside k ≡ true → (j : ℕ) × LeadsTo p j c k
  pub whole : (j k : ℕ) → LeadsTo p j c k → inside k ≡ true

-- A carried cell: the sum of the deep flows of its component is above 0.
pub record IsCarried (p : List Entries) (c : ℕ) : Type 0 where
  pub inside : ℕ → Bool
  pub component : IsComponent p c inside
  pub carries : pos 0 <ℤ sum_inside (length p) inside (λ k. deep_low (entries_at p k))

-- Each component of the problem is anchored or carried.
abbrev pub IsHeldBelow : List Entries → Type 0
IsHeldBelow p = (c : ℕ) → c < length p → ((j : ℕ) × Leads p j c) ⊎ IsCarried p c
