-- The rule of a table of heads: what holds between any two steps, of its words and of what each seat has seen.
use Rattle.std.specs.Prelude.{◌≡◌, ℕ, ◌+◌, ◌*◌, ◌<◌, List, [], ◌∷◌, length, true, false, max, min, ℤ, pos, ◌-ℤ◌, slice_index}
use Rattle.std.specs.Int.{int_max, int_min}
use mathlib.Core.Option.{some}
use lib.ListN.{get_elem?}
use Rattle.atomic_table.specs.Table.{State, Me, Step}
use Rattle.step_problem.specs.{declared.heads.Bound.Bound, declared.heads.Side.Side, Entries.Entries, IsHead, head_limit, Edges, AsTight, AreHeads, IsPast}
use Rattle.step_problem.specs.{IsSettled, declared.heads.Side.TheVariants.Low, declared.heads.Side.TheVariants.High}
use Rattle.cell_relax.specs.{heads_on, IsAsTight, Moves, other}
use Rattle.head_table.specs.declared.known.Known.{Known}
use Rattle.relax_core.specs.{edge_on, OnTheWay, WereSeen}

-- How heads are kept in the words of a table: word 0 is the counter of claims, word 2 c + 1 has the lower head of
-- cell c, and word 2 c + 2 its upper head. A head h is kept as h + head_limit.
-- the head of a word
abbrev pub head_of_word : ℕ → ℤ
head_of_word n = pos n -ℤ pos head_limit

-- the word of cell c on a side
abbrev pub word_of : Side → ℕ → ℕ
word_of Low c = 2 * c + 1
word_of High c = 2 * c + 2

-- the heads of words on a side, by cell
abbrev pub words_on : Side → List ℕ → ℕ → ℤ
words_on side ws c = head_of_word (slice_index ws (word_of side c))

-- the word of the tighter head
abbrev pub tighter_word : Side → ℕ → ℕ → ℕ
tighter_word Low = max
tighter_word High = min

-- what was seen is one bound for each cell, with heads in range
pub record IsSound (v : Known) : Type 0 where
  pub whole : length v.seen ≡ length v.problem
  pub heads : (side : Side) (c : ℕ) → c < length v.problem → IsHead (heads_on side v.seen c)

-- a live view has the problem and the barrier, and what it has seen was seen of the words
pub record IsKnown (p : List Entries) (b : Edges) (words : List ℕ) (v : Known) : Type 0 where
  pub problem_is : v.problem ≡ p
  pub barrier_is : v.barrier ≡ b
  pub whole : length v.seen ≡ length p
  pub heads : (side : Side) → WereSeen side p (words_on side words) (heads_on side v.seen)

-- the words are on the way from the barrier, and each live view is known
pub record IsTableKept (p : List Entries) (b : Edges) (s : State (Unit {0}) Known) : Type 0 where
  pub wide : length s.words ≡ 2 * length p + 1
  pub way : (side : Side) → OnTheWay side p (edge_on side b) (words_on side s.words)
  pub each_seat : (j : ℕ) (v : Known) → get_elem? s.views j ≡ some v → v.live ≡ true → IsKnown p b s.words v

-- the first seat has seen the words with which the table was made
abbrev pub starting : List Bound → List Entries → Edges → Known
starting words p b = record { live = true; seen = words; problem = p; barrier = b }

-- the tighter of both, cell by cell
abbrev pub tightest : List Bound → List Bound → List Bound
tightest [] ys = []
tightest (x ∷ xs) [] = []
tightest (x ∷ xs) (y ∷ ys) = record { low = int_max x.low y.low; high = int_min x.high y.high } ∷ tightest xs ys

-- the view that remains of two that are joined
abbrev pub join_views : Known → Known → Known
join_views v w = record v { seen = tightest v.seen w.seen }

-- the view of a seat that was joined away
abbrev pub spent_view : Known
spent_view = record { live = false; seen = []; problem = []; barrier = record { floor = []; ceiling = [] } }

-- Facts of shared heads, on the lower or on the upper side of a problem.
module _ (side : Side) (p : List Entries) where
  -- x is as tight as the raise or the sink value of cell c from the heads l
  abbrev pub HasMoved : (ℕ → ℤ) → ℕ → ℤ → Type 0
  HasMoved l c x = IsPast (IsAsTight side) (Moves side p) (length p) l c x

  -- x is no tighter than what any settled heads, nowhere looser than the edge, have at cell c
  abbrev pub IsNoTighterThanSettled : (ℕ → ℤ) → ℕ → ℤ → Type 0
  IsNoTighterThanSettled edge c x =
      (m : ℕ → ℤ) → AreHeads (IsAsTight side) (Moves side p) (length p) m → IsSettled (IsAsTight side) (Moves side p) (length p) m →
      AsTight (IsAsTight side) (Moves side p) (length p) edge m → IsAsTight side x (m c)

-- the bounds are no tighter than any settled heads past the barrier
abbrev pub AreNoTighterThanSettled : List Entries → Edges → List Bound → Type 0
AreNoTighterThanSettled p b bounds = (side : Side) (c : ℕ) → c < length p → IsNoTighterThanSettled side p (edge_on side b) c (heads_on side bounds c)

-- What each step of a seat ensures: the word that it found, and what the seat has then seen.
abbrev Sat : Type 0
Sat = Me (Unit {0}) Known

-- the seat is unchanged, except for what it has seen
pub record Stays (m m' : Sat) : Type 0 where
  pub live : m'.0.live ≡ m.0.live
  pub problem : m'.0.problem ≡ m.0.problem
  pub barrier : m'.0.barrier ≡ m.0.barrier
  pub whole : length m'.0.seen ≡ length m.0.seen
  pub slots : m'.1 ≡ m.1

-- the head of cell c that was seen on a side is now h, and all else is as it was
pub record SeesHead (side : Side) (m : Sat) (c : ℕ) (h : ℤ) (m' : Sat) : Type 0 where
  pub stays : Stays m m'
  pub here : heads_on side m'.0.seen c ≡ h
  pub others : (d : ℕ) → (d ≡ c → ⊥) → heads_on side m'.0.seen d ≡ heads_on side m.0.seen d
  pub opposite : (d : ℕ) → heads_on (other side) m'.0.seen d ≡ heads_on (other side) m.0.seen d

-- a load of a head: it is as tight as what was seen, and no tighter than any settled heads; the seat has then seen it
abbrev pub load_play : Step (Unit {0}) → Sat → ℕ → Sat → Type 0
load_play st m r m' =
    (side : Side) (c : ℕ) → st.word ≡ word_of side c → IsHead (head_of_word r) × IsAsTight side (heads_on side m.0.seen c) (head_of_word r)
    × SeesHead side m c (head_of_word r) m' × IsNoTighterThanSettled side m.0.problem (edge_on side m.0.barrier) c (head_of_word r)

-- a raise or a sink: the tighter of the word found and the operand is then seen
abbrev pub exchange_play : Step (Unit {0}) → Sat → ℕ → Sat → Type 0
exchange_play st m r m' =
    (side : Side) (c : ℕ) → st.word ≡ word_of side c → IsHead (head_of_word r) × IsHead (head_of_word (tighter_word side r st.first))
    × IsAsTight side (heads_on side m.0.seen c) (head_of_word r) × SeesHead side m c (head_of_word (tighter_word side r st.first)) m'

-- a claim changes nothing that was seen
abbrev pub claim_play : Step (Unit {0}) → Sat → ℕ → Sat → Type 0
claim_play st m r m' = m' ≡ m
