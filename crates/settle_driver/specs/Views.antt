-- What a viewer is shown while a problem settles, and how many views a settling makes.
use Rattle.std.specs.Prelude.{◌≡◌, ℕ, ◌+◌, ◌*◌, ◌<◌, ◌⊎◌, Bool, true, false, List, length, ℤ, ◌≤ℤ◌, ◌<ℤ◌, Result, Ok, Err, ◌%◌, ◌≤◌}
use Rattle.std.specs.{declared.vec.Vec.Vec, declared.alloc.Global.Global}
use Rattle.step_problem.specs.{declared.heads.Bound.Bound, declared.heads.SettleFault.SettleFault, declared.heads.SettleFault.TheVariants.Unfinished}
use Rattle.step_problem.specs.{declared.heads.SettleFault.TheVariants.Memory, Entries.Entries, AreOnTheWay, Edges, IsBarrier, IsSettled, IsSettledPair}
use Rattle.step_problem.specs.{RoundsSettleBoth, head_at, lower_at, upper_at, IsHead, declared.heads.Side.Side, declared.heads.Side.TheVariants.Low}
use Rattle.step_problem.specs.{declared.heads.Side.TheVariants.High}
use Rattle.cell_relax.specs.{AreWords, AreNoLooser, IsAsTight, IsRelaxedOn, Moves, heads_on}
use Rattle.head_table.specs.{declared.table.HeadTable.HeadTable, declared.table.HeadSeat.HeadSeat, HasMoved, IsSeatOf, seen_on, seen_of}
use Rattle.settle_driver.specs.declared.phases.Plan.{Plan}

-- the settled pair lies between these heads
pub record HoldsPair (p : List Entries) (b : Edges) (heads : List Bound) : Type 0 where
  pub low : (l u : ℕ → ℤ) → IsSettledPair p b l u → (c : ℕ) → c < length p → lower_at heads c ≤ℤ l c
  pub high : (l u : ℕ → ℤ) → IsSettledPair p b l u → (c : ℕ) → c < length p → u c ≤ℤ upper_at heads c

-- no lower head is below the floor of the barrier, and no upper head above its ceiling
pub record ArePastBarrier (p : List Entries) (b : Edges) (heads : List Bound) : Type 0 where
  pub low : (c : ℕ) → c < length p → head_at b.floor c ≤ℤ lower_at heads c
  pub high : (c : ℕ) → c < length p → upper_at heads c ≤ℤ head_at b.ceiling c

-- one bound for each cell, in range, nowhere looser than the barrier, and the settled pair lies between these heads
pub record EnclosesPair (p : List Entries) (b : Edges) (heads : List Bound) : Type 0 where
  pub words : AreWords p heads
  pub past_barrier : ArePastBarrier p b heads
  pub pair : HoldsPair p b heads

-- whether a settling had memory for all its phases: it ended with heads, or with a cell that can still move
abbrev pub had_memory : Result (Vec Bound Global) SettleFault → Bool
had_memory (Ok heads) = true
had_memory (Err (Unfinished o)) = true
had_memory (Err Memory) = false

-- `viewed start p b n now` says that n views of the problem p and the barrier b lead from one state of a viewer to another.
module _ {V : Type 0} (viewed : V → List Entries → Edges → ℕ → V → Type 0) (stopped : V → Type 0) (p : List Entries) (b : Edges) where
  -- count views more lead from old to new; a viewer that had stopped still has
  pub record AddsViews (count : ℕ) (old new : V) : Type 0 where
    pub more : (start : V) (n : ℕ) → viewed start p b n old → viewed start p b (n + count) new
    pub stays : stopped old → stopped new

  -- what a phase adds: where all its turns were made, one view for each, or fewer where the viewer has stopped
  pub record AddsTurns (turns : ℕ) (made : Bool) (old new : V) : Type 0 where
    pub count : ℕ
    pub views : AddsViews count old new
    pub each_turn : made ≡ true → stopped new ⊎ (count ≡ turns)

  -- what a settling adds: no view without a cell; else, where all its phases were made, the turns of one phase or more, or fewer where the viewer has stopped
  pub record AddsPhases (turns : ℕ) (made : Bool) (old new : V) : Type 0 where
    pub count : ℕ
    pub views : AddsViews count old new
    pub no_cell : length p ≡ 0 → count ≡ 0
    pub each_phase : made ≡ true → 0 < length p → stopped new ⊎ ((phases : ℕ) × (0 < phases) × (count ≡ phases * turns))

-- What seats know in a phase, and the result of phases from a barrier's own words.
-- workers from 1 to 64, at most 512 turns for each cell, and at least one round
pub record IsPlan (plan : Plan) : Type 0 where
  pub some_worker : 1 ≤ plan.workers
  pub workers : plan.workers ≤ 64
  pub turns : plan.turns_per_cell ≤ 512
  pub some_round : 1 ≤ plan.rounds

-- each of `workers` workers makes `each` turns: together at least all turns, and none more than needed
pub record AreShared (turns workers each : ℕ) : Type 0 where
  pub enough : turns ≤ workers * each
  pub no_more : workers * each < turns + workers

-- a seat of the table has seen exactly these heads
pub record HasSeen (t : HeadTable) (seen : List Bound) (s : HeadSeat) : Type 0 where
  pub seat : IsSeatOf t s
  pub seen_is : seen_of s ≡ seen

-- the seat of worker number i after its turns: at each cell of its own it has seen the raise and the sink value
pub record HasWorked (t : HeadTable) (i workers : ℕ) (a b : HeadSeat) : Type 0 where
  pub seat : IsSeatOf t b
  pub moved : (side : Side) (c : ℕ) → c < length t.problem.now → c % workers ≡ i → HasMoved side t.problem.now (seen_on side a) c (seen_on side b c)
  pub no_looser : AreNoLooser t.problem.now (seen_of a) (seen_of b)

-- Which side is named if a cell can move.
-- the side that can move, the lower one first
abbrev pub IsFirstSide : Bool → Bool → Side → Type 0
IsFirstSide low high Low = low ≡ true
IsFirstSide low high High = (low ≡ false) × (high ≡ true)

-- Barriers inside another one.
-- x is a head that is as tight as the edge
pub record IsHeadFrom (side : Side) (edge x : ℤ) : Type 0 where
  pub head : IsHead x
  pub tight : IsAsTight side edge x

-- the head has left an inner edge, or the inner edge is the edge
abbrev pub HasLeft : Side → ℤ → ℤ → ℤ → Type 0
HasLeft Low edge inner head = (inner ≤ℤ edge) ⊎ (inner <ℤ head)
HasLeft High edge inner head = (edge ≤ℤ inner) ⊎ (head <ℤ inner)

-- What sweeps over the words of a problem keep and reach, on each side.
module _ (p : List Entries) where
  -- the words of cell c are its raise and its sink value from the old words
  abbrev pub IsRelaxedCell : List Bound → List Bound → ℕ → Type 0
  IsRelaxedCell old new c = (side : Side) → IsRelaxedOn side p (heads_on side old) c (heads_on side new c)

  -- the words of cell c are as tight as its raise and its sink value from the old words
  abbrev pub IsPastCell : List Bound → List Bound → ℕ → Type 0
  IsPastCell old new c = (side : Side) → HasMoved side p (heads_on side old) c (heads_on side new c)

  -- words on the way from any barrier stay on the way
  pub record StayOnTheWay (old new : List Bound) : Type 0 where
    pub on : (b : Edges) → AreOnTheWay p b old → AreOnTheWay p b new

  -- no cell can move
  abbrev pub AreBothSettled : List Bound → Type 0
  AreBothSettled words = (side : Side) → IsSettled (IsAsTight side) (Moves side p) (length p) (heads_on side words)

  -- where k plain rounds from a barrier settle, the new words are settled if the old ones are on the way
  pub record SettleWithin (k : ℕ) (old new : List Bound) : Type 0 where
    pub on : (b : Edges) → IsBarrier p b → AreOnTheWay p b old → RoundsSettleBoth p b k → AreBothSettled new
