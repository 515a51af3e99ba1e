-- The cut barrier: a floor or a ceiling out of the range of heads counts as a unit outside the range, and is no cause of a refusal.
use Rattle.std.specs.Prelude.{◌≡◌, ℕ, ◌+◌, ◌<◌, ◌^◌, ◌⊎◌, List, length, map, ℤ, pos, neg_ℤ, ◌*ℤ◌, ◌≤ℤ◌, ◌<ℤ◌, Contains}
use Rattle.std.specs.Int.{int_max, int_min}
use Rattle.step_problem.specs.{declared.heads.Side.Side, declared.heads.Side.TheVariants.Low, declared.heads.Side.TheVariants.High}
use Rattle.step_problem.specs.{declared.place.NoBound.NoBound, declared.refusal.StepRefusal.StepRefusal, number_of, head_limit, Edges, head_at, entries_at}
use Rattle.step_problem.specs.{bound_on, Entries.Entries, declared.refusal.BoundFault.BoundFault, declared.refusal.BoundFault.TheVariants.NoBound as IsNoBound}
use Rattle.step_problem.specs.{declared.refusal.BoundFault.TheVariants.Memory, declared.place.Place.TheVariants.Cell}
use Rattle.step_problem.specs.{declared.refusal.StepRefusal.TheVariants.NoBarrierLow, declared.refusal.StepRefusal.TheVariants.NoBarrierHigh}
use Rattle.step_problem.specs.{declared.refusal.StepRefusal.TheVariants.RangeLow, declared.refusal.StepRefusal.TheVariants.RangeHigh}
use Rattle.step_problem.specs.{declared.entry.Fixed.Fixed, declared.entry.FixedKind.TheVariants.Storage}
use Rattle.cell_balance.specs.{ExactCell, EnclosesStep, SolvesStep, IsCarried}
use Rattle.barrier_vector.specs.Bounds.{IsBoundOn, IsUnanchored}

-- Why a problem has no barrier: four causes, tried in this order.
-- NoBarrierLow: the component of cell c is neither anchored nor carried.
abbrev pub HasNoFloor : List Entries → ℕ → Type 0
HasNoFloor p c = IsUnanchored Low p c × (IsCarried p c → ⊥)

-- NoBarrierHigh: the component of cell c has no anchor of the high side.
abbrev pub HasNoCeiling : List Entries → ℕ → Type 0
HasNoCeiling p c = IsUnanchored High p c

-- Cell c has no floor, or no ceiling.
abbrev pub HasNoBound : Side → List Entries → ℕ → Type 0
HasNoBound Low = HasNoFloor
HasNoBound High = HasNoCeiling

-- f lies out of the range of heads: below all of them on the low side, above all of them on the high side
abbrev pub IsOutOfRange : Side → ℤ → Type 0
IsOutOfRange Low f = f <ℤ neg_ℤ (pos head_limit)
IsOutOfRange High f = pos head_limit <ℤ f

-- RangeLow, RangeHigh: the bound of cell c lies out of the range of heads.
abbrev pub LeavesRange : Side → List Entries → ℕ → Type 0
LeavesRange side p c = (f : ℤ) × IsBoundOn side p c f × IsOutOfRange side f

-- the two causes of a side
abbrev pub no_barrier_on : Side → StepRefusal
no_barrier_on side = bound_on side NoBarrierLow NoBarrierHigh

abbrev pub range_on : Side → StepRefusal
range_on side = bound_on side RangeLow RangeHigh

-- no cell of the problem has the property
abbrev pub Nowhere : List Entries → (ℕ → Type 0) → Type 0
Nowhere p P = (c : ℕ) → c < length p → P c → ⊥

-- cell c is the least of the problem with the property
pub record IsLeastWith (p : List Entries) (P : ℕ → Type 0) (c : ℕ) : Type 0 where
  pub within : c < length p
  pub has : P c
  pub least : (d : ℕ) → d < c → P d → ⊥

-- the refusal names this number, and this side of the cell by its cell number
pub record Names (p : List Entries) (n : NoBound) (number c : ℕ) (side : Side) : Type 0 where
  pub code : n.code ≡ number
  pub place : n.place ≡ Cell (entries_at p c).id side

-- The side is refused: by its first cause, at the least cell that has it.
abbrev pub IsRefusedOn : Side → List Entries → NoBound → Type 0
IsRefusedOn side p n =
    (c : ℕ) ×
    ((Names p n (number_of (no_barrier_on side)) c side × IsLeastWith p (HasNoBound side p) c)
    ⊎ (Names p n (number_of (range_on side)) c side × Nowhere p (HasNoBound side p) × IsLeastWith p (LeavesRange side p) c))

-- The low side is tried first, whole.
abbrev pub IsRefused : List Entries → NoBound → Type 0
IsRefused p n = IsRefusedOn Low p n ⊎ (Nowhere p (HasNoBound Low p) × Nowhere p (LeavesRange Low p) × IsRefusedOn High p n)

-- A fault is the problem's refusal, or lack of memory.
abbrev pub IsFault : List Entries → BoundFault → Type 0
IsFault p (IsNoBound n) = IsRefused p n
IsFault p Memory = Unit {0}

-- a bound; one that is out of the range of heads is cut to a unit outside it
abbrev pub cut_on : Side → ℤ → ℤ
cut_on Low f = int_max f (neg_ℤ (pos (head_limit + 1)))
cut_on High f = int_min f (pos (head_limit + 1))

-- v is the bound of cell c on a side, cut
abbrev pub IsCutBoundOn : Side → List Entries → ℕ → ℤ → Type 0
IsCutBoundOn side p c v = (f : ℤ) × IsBoundOn side p c f × (v ≡ cut_on side f)

-- the bound of each cell on a side, cut
pub record AreCutBounds (side : Side) (p : List Entries) (vs : List ℤ) : Type 0 where
  pub whole : length vs ≡ length p
  pub each : (c : ℕ) → c < length p → IsCutBoundOn side p c (head_at vs c)

-- b is the cut barrier of the problem: the floor and the ceiling of each cell, cut
pub record IsCutBarrierOf (p : List Entries) (b : Edges) : Type 0 where
  pub floors : AreCutBounds Low p b.floor
  pub ceilings : AreCutBounds High p b.ceiling

-- The side is refused by this cause, at the least cell with the property.
abbrev pub RefusesOn : (Side → StepRefusal) → (Side → ℕ → Type 0) → Side → List Entries → NoBound → Type 0
RefusesOn cause P side p n = (c : ℕ) × Names p n (number_of (cause side)) c side × IsLeastWith p (P side) c

-- The low side is tried first, whole.
abbrev pub Refuses : (Side → StepRefusal) → (Side → ℕ → Type 0) → List Entries → NoBound → Type 0
Refuses cause P p n = RefusesOn cause P Low p n ⊎ (Nowhere p (P Low) × RefusesOn cause P High p n)

-- NoBarrierLow, NoBarrierHigh: some cell has no floor, or no ceiling, so that the problem has no cut barrier.
abbrev pub IsUnbounded : List Entries → NoBound → Type 0
IsUnbounded p = Refuses no_barrier_on (λ side. HasNoBound side p) p

-- A fault is that refusal, or lack of memory.
abbrev pub IsCutFault : List Entries → BoundFault → Type 0
IsCutFault p (IsNoBound n) = IsUnbounded p n
IsCutFault p Memory = Unit {0}

-- The heads X over d lie between whole heads in units of 10^-9 length units, at each of n cells where these aren't below, or above, all heads.
pub record LiesBetweenUncut (n d : ℕ) (X l u : ℕ → ℤ) : Type 0 where
  pub low : (c : ℕ) → c < n → neg_ℤ (pos head_limit) ≤ℤ l c → (l c *ℤ pos d) ≤ℤ (X c *ℤ pos (10 ^ 9))
  pub high : (c : ℕ) → c < n → u c ≤ℤ pos head_limit → (X c *ℤ pos (10 ^ 9)) ≤ℤ (u c *ℤ pos d)

-- Every solution of every exact step that the problem encloses lies between the floors and ceilings that weren't cut.
abbrev pub EnclosesUncut : List Entries → Edges → Type 0
EnclosesUncut p b =
    (s : ℕ) (e : List ExactCell) (d : ℕ) (X : ℕ → ℤ) → EnclosesStep s p e → 0 < d → SolvesStep e d X →
    LiesBetweenUncut (length p) d X (head_at b.floor) (head_at b.ceiling)

-- v, or the end of the range of heads that is nearer to it
abbrev pub clamp : ℤ → ℤ
clamp v = int_max (int_min v (pos head_limit)) (neg_ℤ (pos head_limit))

-- The floors and ceilings that settling begins at: those that were cut moved to the end of the range.
abbrev pub clamped_edges : Edges → Edges
clamped_edges b = record { floor = map clamp b.floor; ceiling = map clamp b.ceiling }

-- What holds of a problem with storage at each cell.
-- each variable cell has storage that certainly conducts
abbrev pub HasStorage : List Entries → Type 0
HasStorage p = (c : ℕ) → c < length p → (x : Fixed) × Contains (entries_at p c).fixed x × (x.kind ≡ Storage) × (0 < x.lo)

-- the fault is neither NoBarrierLow nor NoBarrierHigh
abbrev pub IsNotForLackOfAnchors : BoundFault → Type 0
IsNotForLackOfAnchors (IsNoBound n) = (n.code ≡ number_of NoBarrierLow → ⊥) × (n.code ≡ number_of NoBarrierHigh → ⊥)
IsNotForLackOfAnchors Memory = Unit {0}
