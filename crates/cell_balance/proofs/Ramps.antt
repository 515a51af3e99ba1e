-- A step in whole numbers, with ramps in place of its rivers, drains and evapotranspirations. Heads are whole numerators over d; every elevation is a whole number.
use Rattle.cell_balance.proofs.Common.{◌*ℤ◌, ◌+ℤ◌, ◌-ℤ◌, ◌<ℤ◌, ◌<◌, ◌≡◌, ◌≤ℤ◌, Bool, List, cond, nat_eq, neg_ℤ, pos, true, ℕ, ℤ, int_max, int_min, total, sum_below, sum_inside, ◌∙◌, arith, sym}
use Rattle.cell_balance.proofs.Common.{clamps, ints, mul_mono_right, None, Option, Some}
use Rattle.cell_balance.proofs.Deep.{sub_mul}

-- what leaves a cell: c * (head - foot) between foot and top, nothing below, no more above; a ramp without a top goes on
pub record Ramp : Type 0 where
  pub cell : ℕ
  pub c : ℕ
  pub foot : ℤ
  pub top : Option ℤ

-- how far the head x over d stands on the ramp, and the whole length of a ramp with a top
abbrev pub rise : ℤ → Option ℤ → ℕ → ℤ → ℤ
rise t None d x = int_max (x -ℤ t *ℤ pos d) (pos 0)
rise t (Some u) d x = int_max (int_min x (u *ℤ pos d) -ℤ t *ℤ pos d) (pos 0)

abbrev pub extent : ℤ → Option ℤ → ℤ
extent t None = pos 0
extent t (Some u) = int_max (u -ℤ t) (pos 0)

-- the conductance that holds a head from above: a ramp's without a top
abbrev pub open_conductance : ℕ → Option ℤ → ℕ
open_conductance c None = c
open_conductance c (Some u) = 0

-- of each into cell i: the flow where that cell's head is x, the full rate, and what holds it
abbrev pub ramp_flow : ℕ → ℤ → ℕ → Ramp → ℤ
ramp_flow d x i r = cond (nat_eq r.cell i) (neg_ℤ (pos r.c *ℤ rise r.foot r.top d x)) (pos 0)

abbrev pub full_rate : ℕ → Ramp → ℤ
full_rate i r = cond (nat_eq r.cell i) (pos r.c *ℤ extent r.foot r.top) (pos 0)

abbrev pub open_conductance_at : ℕ → Ramp → ℤ
open_conductance_at i r = cond (nat_eq r.cell i) (pos (open_conductance r.c r.top)) (pos 0)

-- a i j is the conductance from cell i to cell j, of n cells
module _ (n : ℕ) (a : ℕ → ℕ → ℤ) where
  abbrev pub link_flow : (ℕ → ℤ) → ℕ → ℤ
  link_flow X i = sum_below n (λ j. a i j *ℤ (X j -ℤ X i))

  -- a set of cells that no link leaves
  abbrev pub IsClosed : (ℕ → Bool) → Type 0
  IsClosed S = (i j : ℕ) → i < n → j < n → S i ≡ true → pos 0 <ℤ a i j → S j ≡ true

  pub record AreMutual : Type 0 where
    pub nonneg : (i j : ℕ) → pos 0 ≤ℤ a i j
    pub same : (i j : ℕ) → i < n → j < n → a i j ≡ a j i

  -- the set T lies in S, no link leaves it, and f sums above 0 over it
  pub record IsCarriedPart (S T : ℕ → Bool) (f : ℕ → ℤ) : Type 0 where
    pub closed : IsClosed T
    pub within : (i : ℕ) → i < n → T i ≡ true → S i ≡ true
    pub carries : pos 0 <ℤ sum_inside n T f

  -- b i is the conductance of cell i to a head of 0, q i its constant flow
  module _ (b : ℕ → ℕ) (q : ℕ → ℤ) (ramps : List Ramp) where
    -- the balance of cell i at the heads X over d
    abbrev pub net_flow : ℕ → (ℕ → ℤ) → ℕ → ℤ
    net_flow d X i = link_flow X i +ℤ (pos d *ℤ q i -ℤ pos (b i) *ℤ X i) +ℤ total (ramp_flow d (X i) i) ramps

    -- what a cell gets below all feet, less all full rates
    abbrev pub deep : ℕ → ℤ
    deep i = q i -ℤ total (full_rate i) ramps

    -- held below: each closed set of cells that has no conductance to a known head has a part whose deep flows sum above 0
    abbrev pub IsHeldFromBelow : Type 0
    IsHeldFromBelow = (S : ℕ → Bool) → IsClosed S → ((i : ℕ) → i < n → S i ≡ true → b i ≡ 0) → (c : ℕ) → c < n → S c ≡ true → (T : ℕ → Bool) × IsCarriedPart S T deep

    -- held above: no closed set of cells is without a conductance to a known head or a ramp without a top
    abbrev pub IsHeldFromAbove : Type 0
    IsHeldFromAbove = (S : ℕ → Bool) → IsClosed S → ((i : ℕ) → i < n → S i ≡ true → pos (b i) +ℤ total (open_conductance_at i) ramps ≡ pos 0) → (c : ℕ) → c < n → S c ≡ true → ⊥

    -- heads X over d at which each cell's net flow is 0
    pub record IsSolution (d : ℕ) (X : ℕ → ℤ) : Type 0 where
      pub some : 0 < d
      pub solves : (i : ℕ) → i < n → net_flow d X i ≡ pos 0

    abbrev pub HasWholeSolution : Type 0
    HasWholeSolution = (d : ℕ) × (X : ℕ → ℤ) × IsSolution d X

    -- heads X over d at which no cell gains water
    pub record IsSinking (d : ℕ) (X : ℕ → ℤ) : Type 0 where
      pub some : 0 < d
      pub loses : (i : ℕ) → i < n → net_flow d X i ≤ℤ pos 0

    abbrev pub HasSinking : Type 0
    HasSinking = (d : ℕ) × (X : ℕ → ℤ) × IsSinking d X

-- How far a head stands on a ramp: it grows with the head, and what it is below the foot, between foot and top, and above the top.
pub rise_grows : (t : ℤ) (top : Option ℤ) (d : ℕ) (x y : ℤ) → x ≤ℤ y → rise t top d x ≤ℤ rise t top d y
rise_grows t None d x y h = omega (arith, ints, clamps)
rise_grows t (Some u) d x y h = omega (arith, ints, clamps)

-- a ramp with a top: no head stands higher on it than its extent
pub rise_within_extent : (t u : ℤ) (d : ℕ) (x : ℤ) → rise t (Some u) d x ≤ℤ (extent t (Some u) *ℤ pos d)
rise_within_extent t u d x =
    let one = mul_mono_right d (u -ℤ t) (int_max (u -ℤ t) (pos 0)) (omega (arith, ints, clamps)) in
    let none = mul_mono_right d (pos 0) (int_max (u -ℤ t) (pos 0)) (omega (arith, ints, clamps)) in
    omega (arith, ints, clamps, rw sub_mul at one, zero none)
  where
    zero : {z : ℤ} → (pos 0 *ℤ pos d) ≤ℤ z → pos 0 ≤ℤ z
    zero {z} h = omega (arith, ints)

-- a head at or below the foot, on the ramp, and above the top
pub rise-below_foot : (t : ℤ) (top : Option ℤ) (d : ℕ) (x : ℤ) → x ≤ℤ (t *ℤ pos d) → rise t top d x ≡ pos 0
rise-below_foot t None d x h = omega (arith, ints, clamps)
rise-below_foot t (Some u) d x h = omega (arith, ints, clamps)

pub rise-no_extent : (t u : ℤ) (d : ℕ) (x : ℤ) → u ≤ℤ t → rise t (Some u) d x ≡ pos 0
rise-no_extent t u d x h = omega (arith, ints, clamps, mul_mono_right d u t h)

pub rise_within_height : (t : ℤ) (top : Option ℤ) (d : ℕ) (x : ℤ) → (t *ℤ pos d) ≤ℤ x → rise t top d x ≤ℤ (x -ℤ t *ℤ pos d)
rise_within_height t None d x h = omega (arith, ints, clamps)
rise_within_height t (Some u) d x h = omega (arith, ints, clamps)

pub rise-no_top : (t : ℤ) (d : ℕ) (x : ℤ) → (t *ℤ pos d) ≤ℤ x → rise t None d x ≡ x -ℤ t *ℤ pos d
rise-no_top t d x h = omega (arith, ints, clamps)

pub rise-between : (t u : ℤ) (d : ℕ) (x : ℤ) → (t *ℤ pos d) ≤ℤ x → x ≤ℤ (u *ℤ pos d) → rise t (Some u) d x ≡ x -ℤ t *ℤ pos d
rise-between t u d x h k = omega (arith, ints, clamps)

pub rise-above_top : (t u : ℤ) (d : ℕ) (x : ℤ) → t ≤ℤ u → (u *ℤ pos d) ≤ℤ x → rise t (Some u) d x ≡ (u -ℤ t) *ℤ pos d
rise-above_top t u d x h k = (omega (arith, ints, clamps, mul_mono_right d t u h)) ∙ sym (sub_mul u t (pos d))

pub extent-between : (t u : ℤ) → t ≤ℤ u → extent t (Some u) ≡ u -ℤ t
extent-between t u h = omega (arith, ints, clamps)

pub extent_nonneg : (t : ℤ) (top : Option ℤ) → pos 0 ≤ℤ extent t top
extent_nonneg t None = omega (arith, ints)
extent_nonneg t (Some u) = omega (arith, ints, clamps)

pub rise_nonneg : (t : ℤ) (top : Option ℤ) (d : ℕ) (x : ℤ) → pos 0 ≤ℤ rise t top d x
rise_nonneg t None d x = omega (arith, ints, clamps)
rise_nonneg t (Some u) d x = omega (arith, ints, clamps)
