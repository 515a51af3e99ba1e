-- What a settler returns: the pair of a problem, by its kind, or why there is none.
use Rattle.std.specs.Prelude.{◌≡◌, ◌⊎◌, ℕ, ◌<◌, List, length, All, ℤ, pos, neg_ℤ, ◌<ℤ◌, Result, Ok, Err}
use Rattle.std.specs.{declared.vec.Vec.Vec, declared.alloc.Global.Global}
use Rattle.step_problem.specs.{declared.heads.Bound.Bound, declared.heads.Side.Side, declared.heads.Side.TheVariants.Low, declared.heads.Side.TheVariants.High}
use Rattle.step_problem.specs.{declared.heads.SettleFault.SettleFault, declared.heads.SettleFault.TheVariants.Unfinished}
use Rattle.step_problem.specs.{declared.heads.SettleFault.TheVariants.Memory, Entries.Entries, Conditions.IsHead, Conditions.head_limit, Heads.Edges}
use Rattle.step_problem.specs.{Heads.OpenHeads, Heads.lower_at, Heads.upper_at, Heads.CanRise, Heads.CanSink, Heads.IsSettledPair, Heads.IsCertificate}
use Rattle.step_problem.specs.{Heads.RoundsSettleBoth, Heads.AreOnTheWay}

-- A settler gives the settled pair, or any pair that is a certificate, by a test.
pub data PairKind : Type 0 where
  settled : PairKind
  certified : PairKind

module _ (p : List Entries) where
  -- cell c can still move on that side
  abbrev pub CanMove : List Bound → ℕ → Side → Type 0
  CanMove words c Low = (v : ℤ) × IsHead v × CanRise p c v (lower_at words) × (lower_at words c <ℤ v)
  CanMove words c High = (v : ℤ) × IsHead v × CanSink p c v (upper_at words) × (v <ℤ upper_at words c)

  -- cell c can still move on that side, and nothing before it can: the least cell, its lower side first
  pub record IsFirstOpen (words : List Bound) (c : ℕ) (side : Side) : Type 0 where
    pub within : c < length p
    pub moves : CanMove words c side
    pub least : (d : ℕ) → d < c → (s : Side) → CanMove words d s → ⊥
    pub low_first : side ≡ High → CanMove words c Low → ⊥

  -- one bound for each cell: the settled pair
  pub record AreSettled (b : Edges) (bounds : List Bound) : Type 0 where
    pub whole : length bounds ≡ length p
    pub pair : IsSettledPair p b (lower_at bounds) (upper_at bounds)

  -- why a settler with this many rounds gives up: they don't settle; its bounds are on the way, and the cell named can still move
  pub record IsUnfinished (b : Edges) (rounds : ℕ) (o : OpenHeads) : Type 0 where
    pub cause : RoundsSettleBoth p b rounds → ⊥
    pub words : AreOnTheWay p b o.words
    pub open_cell : IsFirstOpen o.words o.cell o.side

  -- one bound for each cell, with heads in range: a certificate
  pub record AreCertified (b : Edges) (bounds : List Bound) : Type 0 where
    pub whole : length bounds ≡ length p
    pub low : (c : ℕ) → c < length p → IsHead (lower_at bounds c)
    pub high : (c : ℕ) → c < length p → IsHead (upper_at bounds c)
    pub certificate : IsCertificate p b (lower_at bounds) (upper_at bounds)

  -- a pair of this kind; a problem has one settled pair, and may have many certificates, of which that is one
  abbrev pub IsPairOf : PairKind → Edges → List Bound → Type 0
  IsPairOf settled b bounds = AreSettled b bounds
  IsPairOf certified b bounds = AreCertified b bounds

  -- a certificate none of whose heads is at the end of the range of heads
  pub record AreInside (b : Edges) (bounds : List Bound) : Type 0 where
    pub certified : AreCertified b bounds
    pub inside : All (λ bound. (neg_ℤ (pos head_limit) <ℤ bound.low) × (bound.high <ℤ pos head_limit)) bounds

  -- what a settler of pairs of this kind gives: where it isn't the settled pair, no head is at the end of the range
  abbrev pub IsGiven : PairKind → Edges → List Bound → Type 0
  IsGiven settled b bounds = AreSettled b bounds
  IsGiven certified b bounds = AreSettled b bounds ⊎ AreInside b bounds

  -- the result of a settler of pairs of this kind: such a pair, or a fault by its cause
  abbrev pub Gives : PairKind → Edges → ℕ → Result (Vec Bound Global) SettleFault → Type 0
  Gives kind b rounds (Ok bounds) = IsGiven kind b bounds.items
  Gives kind b rounds (Err (Unfinished o)) = IsUnfinished b rounds o
  Gives kind b rounds (Err Memory) = Unit {0}

  -- the result of a settler of the settled pair
  abbrev pub Settles : Edges → ℕ → Result (Vec Bound Global) SettleFault → Type 0
  Settles b rounds result = Gives settled b rounds result
