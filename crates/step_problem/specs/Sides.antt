-- One side of the heads, lower or upper. `Le x y` says that the head y is as tight as x; `Moves c v l` says that cell
-- c, where the others have the heads l, may go as far as v. A vector of heads is a function of the cell; only cells
-- below n count.
use Rattle.std.specs.Prelude.{◌≡◌, ℕ, zero, suc, ◌<◌, ◌⊎◌, ℤ}
use Rattle.step_problem.specs.Conditions.{IsHead}

module _ (Le : ℤ → ℤ → Type 0) (Moves : ℕ → ℤ → (ℕ → ℤ) → Type 0) (n : ℕ) where
  -- ys is as tight as xs at each cell
  abbrev pub AsTight : (ℕ → ℤ) → (ℕ → ℤ) → Type 0
  AsTight xs ys = (c : ℕ) → c < n → Le (xs c) (ys c)

  abbrev pub AreHeads : (ℕ → ℤ) → Type 0
  AreHeads xs = (c : ℕ) → c < n → IsHead (xs c)

  -- r is the relaxed head of cell c from the heads l: the tightest head to which it may go, or its own
  pub record IsRelaxed (l : ℕ → ℤ) (c : ℕ) (r : ℤ) : Type 0 where
    pub no_looser : Le (l c) r
    pub furthest : (v : ℤ) → IsHead v → Moves c v l → Le v r
    pub reached : (r ≡ l c) ⊎ (IsHead r × Moves c r l)

  -- x is as tight as the relaxed head of cell c from the heads l
  pub record IsPast (l : ℕ → ℤ) (c : ℕ) (x : ℤ) : Type 0 where
    pub no_looser : Le (l c) x
    pub furthest : (v : ℤ) → IsHead v → Moves c v l → Le v x

  -- one plain round: each cell goes to its relaxed head, all at once
  abbrev pub IsRound : (ℕ → ℤ) → (ℕ → ℤ) → Type 0
  IsRound l m = (c : ℕ) → c < n → IsRelaxed l c (m c)

  -- k plain rounds from l give m
  abbrev pub Rounds : ℕ → (ℕ → ℤ) → (ℕ → ℤ) → Type 0
  Rounds zero l m = (c : ℕ) → c < n → m c ≡ l c
  Rounds (suc k) l m = (j : ℕ → ℤ) × Rounds k l j × IsRound j m

  -- a plain round does not change these heads
  abbrev pub IsSettled : (ℕ → ℤ) → Type 0
  IsSettled l = (c : ℕ) → c < n → (v : ℤ) → IsHead v → Moves c v l → Le v (l c)

  -- k plain rounds from the barrier settle
  abbrev pub RoundsSettle : ℕ → (ℕ → ℤ) → Type 0
  RoundsSettle k edge = (m : ℕ → ℤ) × Rounds k edge m × IsSettled m

  -- every settled vector past the barrier is as tight as these heads
  abbrev pub IsNoTighterThanSettled : (ℕ → ℤ) → (ℕ → ℤ) → Type 0
  IsNoTighterThanSettled edge l = (m : ℕ → ℤ) → AreHeads m → IsSettled m → AsTight edge m → AsTight l m

  -- the loosest settled vector past the barrier
  pub record IsFirstSettled (edge l : ℕ → ℤ) : Type 0 where
    pub heads : AreHeads l
    pub past_barrier : AsTight edge l
    pub settled : IsSettled l
    pub first : IsNoTighterThanSettled edge l

  -- each head is at the barrier or looser, or its cell may stay there
  abbrev pub IsCertified : (ℕ → ℤ) → (ℕ → ℤ) → Type 0
  IsCertified edge l = (c : ℕ) → c < n → Le (l c) (edge c) ⊎ Moves c (l c) l

  -- the conditions on heads on their way from the barrier
  pub record IsOnTheWay (edge l : ℕ → ℤ) : Type 0 where
    pub heads : AreHeads l
    pub past_barrier : AsTight edge l
    pub certified : IsCertified edge l
    pub under : IsNoTighterThanSettled edge l

-- Heads that several actors share on one side: what one has seen of them, and one exchange of a head.
-- `seen` was read from l, now or earlier: none of its heads is tighter
pub record AreSeen (Le : ℤ → ℤ → Type 0) (Moves : ℕ → ℤ → (ℕ → ℤ) → Type 0) (n : ℕ) (l seen : ℕ → ℤ) : Type 0 where
  pub behind : AsTight Le Moves n seen l
  pub heads : AreHeads Le Moves n seen

-- next is l except at cell c, where it is w, the tighter of l's head and r
pub record IsExchange (Le : ℤ → ℤ → Type 0) (l : ℕ → ℤ) (c : ℕ) (r w : ℤ) (next : ℕ → ℤ) : Type 0 where
  pub here : next c ≡ w
  pub elsewhere : (d : ℕ) → (d ≡ c → ⊥) → next d ≡ l d
  pub old : Le (l c) w
  pub new : Le r w
  pub one : (w ≡ l c) ⊎ (w ≡ r)
