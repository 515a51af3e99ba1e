-- What every event keeps, on the lower and on the upper side of a problem.
use Rattle.std.specs.Prelude.{◌≡◌, ℕ, List, length, All, ℤ, ◌<◌, ◌≤ℤ◌, [], ◌∷◌, slice_index_or, slice_set}
use Rattle.step_problem.specs.{declared.heads.Bound.Bound, declared.heads.Side.Side, declared.heads.Side.TheVariants.Low, declared.heads.Side.TheVariants.High}
use Rattle.step_problem.specs.{Entries.Entries, AreSeen, IsExchange, IsOnTheWay, AsTight, IsRelaxed, Edges, head_at, AreOnTheWay, Ge, CanRise, CanSink}
use Rattle.step_problem.specs.{IsBarrier, lower_at, upper_at, IsHead, IsProblem}
use Rattle.cell_relax.specs.{IsAsTight, Moves, heads_on, AreNoLooser, IsRelaxedOn, tighter_of, AreWords}
use Rattle.relax_core.specs.declared.events.Event.{Event}
use Rattle.relax_core.specs.declared.events.Event.TheVariants.{See, Raise, Sink, Claim}

-- Heads that several actors share: a state, the events that change it, and one event after another.
-- the words, one bound for each cell, and for each actor the bounds that it has seen
pub record Core : Type 0 where
  pub words : List Bound
  pub seen : List (List Bound)

abbrev pub seen_by : Core → ℕ → List Bound
seen_by s a = slice_index_or s.seen a []

-- the bounds with the head h on one side of cell c
abbrev pub with_head : Side → List Bound → ℕ → ℤ → List Bound
with_head Low bounds c h = slice_set bounds c (record { low = h; high = upper_at bounds c })
with_head High bounds c h = slice_set bounds c (record { low = lower_at bounds c; high = h })

-- the state with these first words, which each of count actors has seen
pub record IsStart (first : List Bound) (count : ℕ) (s : Core) : Type 0 where
  pub words : s.words ≡ first
  pub actors : length s.seen ≡ count
  pub seen : All (λ v. v ≡ first) s.seen

-- t has the words ws, and actor a has seen v there; the others have seen what they had in s
pub record Becomes (s t : Core) (ws : List Bound) (a : ℕ) (v : List Bound) : Type 0 where
  pub words : t.words ≡ ws
  pub seen : t.seen ≡ slice_set s.seen a v

-- actor a sees the word of cell c on one side
abbrev pub Sees : Side → Core → Core → ℕ → ℕ → Type 0
Sees side s t a c = Becomes s t s.words a (with_head side (seen_by s a) c (heads_on side s.words c))

-- actor a puts the head h into the word of cell c on one side, and has then seen it
abbrev pub Puts : Side → Core → Core → ℕ → ℕ → ℤ → Type 0
Puts side s t a c h = Becomes s t (with_head side s.words c h) a (with_head side (seen_by s a) c h)

module _ (p : List Entries) where
  -- the words and all that was seen are one bound for each cell, with heads in range
  pub record IsInRange (s : Core) : Type 0 where
    pub words : AreWords p s.words
    pub seen : All (AreWords p) s.seen

  -- an event names an actor of the state and a cell of the problem
  abbrev pub IsNamed : Core → Event → Type 0
  IsNamed s (See a c side) = (a < length s.seen) × (c < length p)
  IsNamed s (Raise a c) = (a < length s.seen) × (c < length p)
  IsNamed s (Sink a c) = (a < length s.seen) × (c < length p)
  IsNamed s (Claim a) = a < length s.seen

  -- actor a puts the tighter of the word of cell c on one side and the cell's relaxed head there, from the heads that the actor has seen
  abbrev pub Relaxes : Side → Core → Core → ℕ → ℕ → Type 0
  Relaxes side s t a c =
      (r : ℤ) × IsRelaxedOn side p (heads_on side (seen_by s a)) c r × Puts side s t a c (tighter_of side (heads_on side s.words c) r)

  -- one event takes s to t
  abbrev pub Step : Event → Core → Core → Type 0
  Step (See a c side) s t = Sees side s t a c
  Step (Raise a c) s t = Relaxes Low s t a c
  Step (Sink a c) s t = Relaxes High s t a c
  Step (Claim a) s t = (t.words ≡ s.words) × (t.seen ≡ s.seen)

  -- events, one after another, take s to t
  abbrev pub Path : List Event → Core → Core → Type 0
  Path [] s t = (t.words ≡ s.words) × (t.seen ≡ s.seen)
  Path (e ∷ es) s t = IsNamed s e × ((m : Core) × Step e s m × Path es m t)

-- the floor of a barrier on the low side, its ceiling on the high side, by cell
abbrev pub edge_on : Side → Edges → ℕ → ℤ
edge_on Low b = head_at b.floor
edge_on High b = head_at b.ceiling

module _ (side : Side) (p : List Entries) where
  -- heads on the way from an edge of a barrier
  abbrev pub OnTheWay : (ℕ → ℤ) → (ℕ → ℤ) → Type 0
  OnTheWay edge l = IsOnTheWay (IsAsTight side) (Moves side p) (length p) edge l

  -- heads that were seen of l, now or earlier
  abbrev pub WereSeen : (ℕ → ℤ) → (ℕ → ℤ) → Type 0
  WereSeen l seen = AreSeen (IsAsTight side) (Moves side p) (length p) l seen

module _ (p : List Entries) where
  -- v was seen of these words, now or earlier
  pub record WasSeen (words v : List Bound) : Type 0 where
    pub whole : length v ≡ length p
    pub heads : (side : Side) → WereSeen side p (heads_on side words) (heads_on side v)

  -- the words are on the way from the barrier (past it, a certificate, and no tighter than any settled heads past it), and no actor has seen tighter ones
  pub record IsKept (b : Edges) (s : Core) : Type 0 where
    pub words : AreOnTheWay p b s.words
    pub seen : All (WasSeen s.words) s.seen

-- Laws of events on shared heads.
-- every list of events keeps what a state keeps, and loosens no word
abbrev pub EventsKeep : Type 0
EventsKeep =
    (p : List Entries) (b : Edges) (events : List Event) (s t : Core) → IsProblem p → IsKept p b s →
    Path p events s t → IsKept p b t × AreNoLooser p s.words t.words

-- words that are the barrier's own
pub record AreEdges (p : List Entries) (b : Edges) (words : List Bound) : Type 0 where
  pub whole : length words ≡ length p
  pub low : (c : ℕ) → c < length p → lower_at words c ≡ head_at b.floor c
  pub high : (c : ℕ) → c < length p → upper_at words c ≡ head_at b.ceiling c

-- a barrier's own words, which each actor has seen, are kept
abbrev pub EdgesAreKept : Type 0
EdgesAreKept =
    (p : List Entries) (b : Edges) (words : List Bound) (actors : ℕ) (s : Core) → IsProblem p → IsBarrier p b →
    AreEdges p b words → IsStart words actors s → IsKept p b s

-- what single events keep on one side, stated for heads alone
pub record KeepsHeads (Le : ℤ → ℤ → Type 0) (Moves : ℕ → ℤ → (ℕ → ℤ) → Type 0) (n : ℕ) : Type 0 where
  -- an exchange with a relaxed head from seen heads keeps heads on the way
  pub exchange : (edge l seen next : ℕ → ℤ) (c : ℕ) (r w : ℤ) → c < n → IsOnTheWay Le Moves n edge l →
      AreSeen Le Moves n l seen → IsRelaxed Le Moves n seen c r → IsExchange Le l c r w next →
      IsOnTheWay Le Moves n edge next
  -- an exchange makes no head looser
  pub tighter : (l : ℕ → ℤ) (c : ℕ) (r w : ℤ) (next : ℕ → ℤ) → IsExchange Le l c r w next → AsTight Le Moves n l next
  -- heads that become tighter leave what was seen of them
  pub still : (l next seen : ℕ → ℤ) → AsTight Le Moves n l next → AreSeen Le Moves n l seen → AreSeen Le Moves n next seen
  -- one more head is seen
  pub look : (l seen after : ℕ → ℤ) (c : ℕ) → IsHead (l c) → after c ≡ l c →
      ((d : ℕ) → (d ≡ c → ⊥) → after d ≡ seen d) → AreSeen Le Moves n l seen → AreSeen Le Moves n l after

abbrev pub EventsKeepHeads : Type 0
EventsKeepHeads = (p : List Entries) → IsProblem p → KeepsHeads ◌≤ℤ◌ (CanRise p) (length p) × KeepsHeads Ge (CanSink p) (length p)
