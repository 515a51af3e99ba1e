-- Laws of balances, rounds and settled heads.
use Rattle.std.specs.Prelude.{◌≡◌, ℕ, ◌<◌, List, length, ℤ, ◌≤ℤ◌, All, ◌⊎◌, pos, ◌+ℤ◌, ◌-ℤ◌, ◌<ℤ◌}
use Rattle.step_problem.specs.{Entries.Entries, Conditions.IsProblem, Sides.AsTight, Sides.IsRound, Heads.Edges, Heads.Ge, Heads.CanRise, Heads.CanSink}
use Rattle.step_problem.specs.{Heads.IsBarrier, Heads.IsSettledPair, Heads.IsCertificate, Heads.head_at, Balances.lower_balance, Balances.upper_balance}

-- a balance falls weakly in its own head
abbrev pub FallsInOwnHead : (Entries → ℤ → (ℕ → ℤ) → ℤ) → Type 0
FallsInOwnHead balance = (c : Entries) (h : ℕ → ℤ) (v w : ℤ) → v ≤ℤ w → balance c w h ≤ℤ balance c v h

-- and rises weakly in the head at each other end
abbrev pub RisesInOtherHeads : (Entries → ℤ → (ℕ → ℤ) → ℤ) → Type 0
RisesInOtherHeads balance = (c : Entries) (v : ℤ) (h k : ℕ → ℤ) → All (λ x. h x.cell ≤ℤ k x.cell) c.links → balance c v h ≤ℤ balance c v k

-- a plain round never loosens, and is monotone: from tighter heads it gives tighter ones
pub record KeepsOrder (Le : ℤ → ℤ → Type 0) (Moves : ℕ → ℤ → (ℕ → ℤ) → Type 0) (n : ℕ) : Type 0 where
  pub tightens : (l m : ℕ → ℤ) → IsRound Le Moves n l m → AsTight Le Moves n l m
  pub monotone : (k l x y : ℕ → ℤ) → AsTight Le Moves n k l → IsRound Le Moves n k x → IsRound Le Moves n l y → AsTight Le Moves n x y

abbrev pub RoundsKeepOrder : Type 0
RoundsKeepOrder = (p : List Entries) → IsProblem p → KeepsOrder ◌≤ℤ◌ (CanRise p) (length p) × KeepsOrder Ge (CanSink p) (length p)

-- a problem and a barrier have a settled pair
abbrev pub SettledPairExists : Type 0
SettledPairExists = (p : List Entries) (b : Edges) → IsProblem p → IsBarrier p b → (l : ℕ → ℤ) × (u : ℕ → ℤ) × IsSettledPair p b l u

-- and no other
abbrev pub SettledPairIsOne : Type 0
SettledPairIsOne =
    (p : List Entries) (b : Edges) (l u x y : ℕ → ℤ) → IsSettledPair p b l u → IsSettledPair p b x y → (c : ℕ) →
    c < length p → (x c ≡ l c) × (y c ≡ u c)

-- a settled pair is a certificate
abbrev pub SettledPairCertifies : Type 0
SettledPairCertifies = (p : List Entries) (b : Edges) (l u : ℕ → ℤ) → IsProblem p → IsBarrier p b → IsSettledPair p b l u → IsCertificate p b l u

-- Settled heads under a shift of all heads, and when the settled heads of an inner barrier are those of the outer one.
-- if a cell's head is k units higher, and the heads at the other ends are at most k units higher, the lower balance is no greater
abbrev pub LowerShifts : Type 0
LowerShifts =
    (c : Entries) (k : ℕ) (v w : ℤ) (h g : ℕ → ℤ) → (w +ℤ pos k) ≤ℤ v →
    All (λ x. g x.cell ≤ℤ (h x.cell +ℤ pos k)) c.links → lower_balance c v g ≤ℤ lower_balance c w h

-- if a cell's head is k units lower, and the heads at the other ends are at most k units lower, the upper balance is no less
abbrev pub UpperShifts : Type 0
UpperShifts =
    (c : Entries) (k : ℕ) (v w : ℤ) (h g : ℕ → ℤ) → v ≤ℤ (w -ℤ pos k) →
    All (λ x. (h x.cell -ℤ pos k) ≤ℤ g x.cell) c.links → upper_balance c w h ≤ℤ upper_balance c v g

module _ (p : List Entries) where
  -- the barrier d lies inside b: no head of its floor is lower, and none of its ceiling higher
  pub record IsInside (b d : Edges) : Type 0 where
    pub low : (c : ℕ) → c < length p → head_at b.floor c ≤ℤ head_at d.floor c
    pub high : (c : ℕ) → c < length p → head_at d.ceiling c ≤ℤ head_at b.ceiling c

  -- at each cell the lower head has left the floor of d, or the floor of d is that of b; the upper one mirrored
  pub record HaveLeft (b d : Edges) (l u : ℕ → ℤ) : Type 0 where
    pub low : (c : ℕ) → c < length p → (head_at d.floor c ≤ℤ head_at b.floor c) ⊎ (head_at d.floor c <ℤ l c)
    pub high : (c : ℕ) → c < length p → (head_at b.ceiling c ≤ℤ head_at d.ceiling c) ⊎ (u c <ℤ head_at d.ceiling c)

-- the settled pair of a barrier d inside b is that of b too, if at each cell it has left d or d is equal to b
abbrev pub LeavingSettles : Type 0
LeavingSettles =
    (p : List Entries) (b d : Edges) (l u : ℕ → ℤ) → IsProblem p → IsInside p b d → IsSettledPair p d l u →
    HaveLeft p b d l u → IsSettledPair p b l u
