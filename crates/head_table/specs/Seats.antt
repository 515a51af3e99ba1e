-- The words of contracts on a table and its seats.
use Rattle.std.specs.Prelude.{◌≡◌, ℕ, ◌<◌, List, length, ℤ}
use Rattle.step_problem.specs.{declared.heads.Bound.Bound, declared.heads.Side.Side, Entries.Entries, Edges}
use Rattle.cell_relax.specs.{tighter_of, heads_on}
use Rattle.head_table.specs.{declared.table.HeadTable.HeadTable, declared.table.HeadSeat.HeadSeat}

-- the barrier with which the table was made
abbrev pub barrier_of : HeadTable → Edges
barrier_of t = t.table.shared.key.barrier.value

-- the bounds that a seat has seen, and their heads on a side by cell
abbrev pub seen_of : HeadSeat → List Bound
seen_of s = s.seat.me.0.seen

abbrev pub seen_on : Side → HeadSeat → ℕ → ℤ
seen_on side s = heads_on side s.seat.me.0.seen

-- the seat is one of the table's
pub record IsSeatOf (t : HeadTable) (s : HeadSeat) : Type 0 where
  pub table : s.seat.table_id ≡ t.table.shared.table_id
  pub problem : s.seat.me.0.problem ≡ t.problem.now
  pub barrier : s.seat.me.0.barrier ≡ t.table.shared.key.barrier.value

-- the heads seen on a side are the same, at each cell or at each but c
abbrev pub SameOn : Side → HeadSeat → HeadSeat → Type 0
SameOn side a b = (d : ℕ) → seen_on side b d ≡ seen_on side a d

abbrev pub SameOnBut : Side → ℕ → HeadSeat → HeadSeat → Type 0
SameOnBut side c a b = (d : ℕ) → (d ≡ c → ⊥) → seen_on side b d ≡ seen_on side a d

-- at each cell the seat c has seen the tighter of what a and b had seen
abbrev pub HasTighter : List Entries → HeadSeat → HeadSeat → HeadSeat → Type 0
HasTighter p a b c = (side : Side) (d : ℕ) → d < length p → seen_on side c d ≡ tighter_of side (seen_on side a d) (seen_on side b d)

-- the bounds show what the seat has seen
abbrev pub ShowsSeen : List Entries → HeadSeat → List Bound → Type 0
ShowsSeen p s bounds = (side : Side) (c : ℕ) → c < length p → heads_on side bounds c ≡ seen_on side s c
