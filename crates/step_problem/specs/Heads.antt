-- Both sides of a problem's heads: raise and sink values, the settled pair, the certificate.
use Rattle.std.specs.Prelude.{◌≡◌, ℕ, ◌<◌, ◌⊎◌, List, length, ℤ, pos, ◌≤ℤ◌, slice_index_or}
use Rattle.step_problem.specs.{declared.heads.Bound.Bound, declared.heads.Side.Side, Entries.Entries, Entries.entries_at, Balances.lower_balance}
use Rattle.step_problem.specs.{Balances.upper_balance, Conditions.IsHead, Sides.IsRelaxed, Sides.RoundsSettle, Sides.IsFirstSettled, Sides.IsOnTheWay}

-- the floor and the ceiling of a barrier, a head for each variable cell
pub record Edges : Type 0 where
  pub floor : List ℤ
  pub ceiling : List ℤ

-- where a settling gave up: a cell that can still move, its side, and the heads reached
pub record OpenHeads : Type 0 where
  pub cell : ℕ
  pub side : Side
  pub words : List Bound

abbrev pub head_at : List ℤ → ℕ → ℤ
head_at xs c = slice_index_or xs c (pos 0)

abbrev pub no_bound : Bound
no_bound = record { low = pos 0; high = pos 0 }

-- the lower and the upper head of cell c
abbrev pub lower_at : List Bound → ℕ → ℤ
lower_at bs c = (slice_index_or bs c no_bound).low

abbrev pub upper_at : List Bound → ℕ → ℤ
upper_at bs c = (slice_index_or bs c no_bound).high

-- for upper heads the lower one is tighter
abbrev pub Ge : ℤ → ℤ → Type 0
Ge x y = y ≤ℤ x

module _ (p : List Entries) where
  -- cell c may rise to v: its lower balance is not negative there
  abbrev pub CanRise : ℕ → ℤ → (ℕ → ℤ) → Type 0
  CanRise c v l = pos 0 ≤ℤ lower_balance (entries_at p c) v l

  -- cell c may sink to v: its upper balance is not positive there
  abbrev pub CanSink : ℕ → ℤ → (ℕ → ℤ) → Type 0
  CanSink c v u = upper_balance (entries_at p c) v u ≤ℤ pos 0

  -- r is the raise value of cell c from the lower heads l
  abbrev pub IsRaise : (ℕ → ℤ) → ℕ → ℤ → Type 0
  IsRaise l c r = IsRelaxed ◌≤ℤ◌ CanRise (length p) l c r

  -- r is the sink value of cell c from the upper heads u
  abbrev pub IsSink : (ℕ → ℤ) → ℕ → ℤ → Type 0
  IsSink u c r = IsRelaxed Ge CanSink (length p) u c r

  -- a barrier of the problem: a floor and a ceiling for each cell
  pub record IsBarrier (b : Edges) : Type 0 where
    pub floors : length b.floor ≡ length p
    pub ceilings : length b.ceiling ≡ length p
    pub floor : (c : ℕ) → c < length p → IsHead (head_at b.floor c)
    pub ceiling : (c : ℕ) → c < length p → IsHead (head_at b.ceiling c)

  -- the least settled lower heads not below the floor, and the greatest settled upper heads not above the ceiling
  pub record IsSettledPair (b : Edges) (l u : ℕ → ℤ) : Type 0 where
    pub low : IsFirstSettled ◌≤ℤ◌ CanRise (length p) (head_at b.floor) l
    pub high : IsFirstSettled Ge CanSink (length p) (head_at b.ceiling) u

  -- k plain rounds from the floor give settled lower heads, and k from the ceiling settled upper heads
  pub record RoundsSettleBoth (b : Edges) (k : ℕ) : Type 0 where
    pub low : RoundsSettle ◌≤ℤ◌ CanRise (length p) k (head_at b.floor)
    pub high : RoundsSettle Ge CanSink (length p) k (head_at b.ceiling)

  -- at each cell the lower head is at most the floor, or its lower balance is not negative; the upper one mirrored
  pub record IsCertificate (b : Edges) (l u : ℕ → ℤ) : Type 0 where
    pub low : (c : ℕ) → c < length p → (l c ≤ℤ head_at b.floor c) ⊎ (pos 0 ≤ℤ lower_balance (entries_at p c) (l c) l)
    pub high : (c : ℕ) → c < length p → (head_at b.ceiling c ≤ℤ u c) ⊎ (upper_balance (entries_at p c) (u c) u ≤ℤ pos 0)

  -- bounds on the way from the barrier: past it, certified, and no tighter than any settled vector past it
  pub record AreOnTheWay (b : Edges) (words : List Bound) : Type 0 where
    pub whole : length words ≡ length p
    pub low : IsOnTheWay ◌≤ℤ◌ CanRise (length p) (head_at b.floor) (lower_at words)
    pub high : IsOnTheWay Ge CanSink (length p) (head_at b.ceiling) (upper_at words)
