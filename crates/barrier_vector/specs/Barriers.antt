-- The barrier of a problem, and that a problem has one barrier or one refusal.
use Rattle.std.specs.Prelude.{◌≡◌, ℕ, ◌<◌, List, length, ◌^◌, ℤ, pos, ◌*ℤ◌, ◌≤ℤ◌}
use Rattle.step_problem.specs.{declared.place.NoBound.NoBound, Entries.Entries, IsProblem, Edges, head_at, IsBarrier}
use Rattle.barrier_vector.specs.{Bounds.IsCellFloor, Bounds.IsCellCeiling, Cuts.IsRefused, Cuts.IsCutBarrierOf, Cuts.IsUnbounded, Cuts.clamped_edges}
use Rattle.cell_balance.specs.{ExactCell, SolvesStep, EnclosesStep, IsHeldBelow}

-- b is the barrier of the problem: the floor and the ceiling of each cell, all of them heads
pub record IsBarrierOf (p : List Entries) (b : Edges) : Type 0 where
  pub fits : IsBarrier p b
  pub floors : (c : ℕ) → c < length p → IsCellFloor p c (head_at b.floor c)
  pub ceilings : (c : ℕ) → c < length p → IsCellCeiling p c (head_at b.ceiling c)

-- A problem has at most one barrier.
abbrev pub BarrierIsOne : Type 0
BarrierIsOne = (p : List Entries) (b c : Edges) → IsProblem p → IsBarrierOf p b → IsBarrierOf p c → b ≡ c

-- A problem with a barrier has no refusal.
abbrev pub BarrierExcludesRefusal : Type 0
BarrierExcludesRefusal = (p : List Entries) (b : Edges) (n : NoBound) → IsProblem p → IsBarrierOf p b → IsRefused p n → ⊥

-- A problem has at most one refusal.
abbrev pub RefusalIsOne : Type 0
RefusalIsOne = (p : List Entries) (n m : NoBound) → IsRefused p n → IsRefused p m → n ≡ m

-- Floors and ceilings enclose every solution of every step that the problem encloses. Heads are whole numerators over one denominator d.
-- The heads X over d solve an exact step that the problem p encloses.
pub record IsSolution (p : List Entries) (s : ℕ) (e : List ExactCell) (d : ℕ) (X : ℕ → ℤ) : Type 0 where
  pub problem : IsProblem p
  pub encloses : EnclosesStep s p e
  pub some : 0 < d
  pub solves : SolvesStep e d X

-- No solution lies below a floor.
abbrev pub FloorsEnclose : Type 0
FloorsEnclose =
    (p : List Entries) (s : ℕ) (e : List ExactCell) (d : ℕ) (X : ℕ → ℤ) → IsSolution p s e d X →
    (c : ℕ) (f : ℤ) → c < length p → IsCellFloor p c f → (f *ℤ pos d) ≤ℤ (X c *ℤ pos (10 ^ 9))

-- No solution lies above a ceiling.
abbrev pub CeilingsEnclose : Type 0
CeilingsEnclose =
    (p : List Entries) (s : ℕ) (e : List ExactCell) (d : ℕ) (X : ℕ → ℤ) → IsSolution p s e d X →
    (c : ℕ) (f : ℤ) → c < length p → IsCellCeiling p c f → (X c *ℤ pos (10 ^ 9)) ≤ℤ (f *ℤ pos d)

-- A problem whose cells all have floors is held below: each component is anchored or carried.
abbrev pub FloorsHold : Type 0
FloorsHold = (p : List Entries) → ((c : ℕ) → c < length p → (f : ℤ) × IsCellFloor p c f) → IsHeldBelow p

-- A problem has one cut barrier or one refusal of it, and where it has a barrier that is the cut one.
-- A problem has at most one cut barrier.
abbrev pub CutBarrierIsOne : Type 0
CutBarrierIsOne = (p : List Entries) (b c : Edges) → IsProblem p → IsCutBarrierOf p b → IsCutBarrierOf p c → b ≡ c

-- A problem's barrier is its cut barrier: nothing is cut.
abbrev pub BarrierIsCut : Type 0
BarrierIsCut = (p : List Entries) (b : Edges) → IsBarrierOf p b → IsCutBarrierOf p b

-- A problem with a cut barrier isn't refused for lack of a bound.
abbrev pub CutBarrierExcludesRefusal : Type 0
CutBarrierExcludesRefusal = (p : List Entries) (b : Edges) (n : NoBound) → IsProblem p → IsCutBarrierOf p b → IsUnbounded p n → ⊥

-- It has at most one such refusal.
abbrev pub CutRefusalIsOne : Type 0
CutRefusalIsOne = (p : List Entries) (n m : NoBound) → IsUnbounded p n → IsUnbounded p m → n ≡ m

-- Floors and ceilings of any size, one of each for each cell, moved into the range of heads are a barrier; one in the range stays as it is.
pub record IsClampedRight (p : List Entries) (b : Edges) : Type 0 where
  pub fits : length b.floor ≡ length p → length b.ceiling ≡ length p → IsBarrier p (clamped_edges b)
  pub same : IsBarrier p b → clamped_edges b ≡ b

abbrev pub ClampedFits : Type 0
ClampedFits = (p : List Entries) (b : Edges) → IsClampedRight p b
