-- Settled heads that have left a barrier inside another one are the first settled ones past the other.
use Rattle.step_problem.proofs.Common.{ℕ, zero, suc, ◌*◌, ◌<◌, ◌⊎◌, inl, inr, ⊎_elim, arith, ℤ, ◌≤ℤ◌, ◌<ℤ◌, List, length, ints, clamps, by_lt_z, Entries, IsHead, IsProblem, head_limit, AsTight}
use Rattle.step_problem.proofs.Common.{AreHeads, IsSettled, IsFirstSettled, Ge, CanRise, CanSink, head_at, LeavingSettles}
use Rattle.decimal_input.proofs.FloorLaws.{lt-not-le}
use Rattle.step_problem.proofs.{Sides.IsSide, Sides.as_tight_trans, BothSides.low_side, BothSides.high_side, BothSides.raised, BothSides.sunk, BothSides.raised_settled, BothSides.sunk_settled}

-- all heads of a side can be made tighter by so many units
record IsShiftable (Le : ℤ → ℤ → Type 0) (Moves : ℕ → ℤ → (ℕ → ℤ) → Type 0) (n : ℕ) : Type 0 where
  shift : ℕ → ℤ → ℤ
  head : (k : ℕ) (x : ℤ) → IsHead x → IsHead (shift k x)
  tighter : (k : ℕ) (x : ℤ) → IsHead x → Le x (shift k x)
  none : (x : ℤ) → Le (shift zero x) x
  all : (x y : ℤ) → IsHead x → IsHead y → Le x (shift (2 * head_limit) y)
  before : (k : ℕ) (x d y : ℤ) → (Le x d → ⊥) → Le x (shift (suc k) y) → Le d (shift k y)
  settled : (k : ℕ) (m : ℕ → ℤ) → AreHeads Le Moves n m → IsSettled Le Moves n m → IsSettled Le Moves n (λ c. shift k (m c))

module _ {Le : ℤ → ℤ → Type 0} {Moves : ℕ → ℤ → (ℕ → ℤ) → Type 0} {n : ℕ} (s : IsSide Le Moves n) (f : IsShiftable Le Moves n) where
  first_of_left : (b d l : ℕ → ℤ) → AsTight Le Moves n b d → ((c : ℕ) → c < n → Le (d c) (b c) ⊎ (Le (l c) (d c) → ⊥)) → IsFirstSettled Le Moves n d l → IsFirstSettled Le Moves n b l
  first_of_left b d l inside left first = record {
    heads = first.heads;
    past_barrier = as_tight_trans s b d l inside first.past_barrier;
    settled = first.settled;
    first = λ m ok settled past. down m ok settled past (2 * head_limit) (λ c h. f.all (l c) (m c) (first.heads c h) (ok c h));
  }
    where
      down : (m : ℕ → ℤ) → AreHeads Le Moves n m → IsSettled Le Moves n m → AsTight Le Moves n b m → (k : ℕ) → AsTight Le Moves n l (λ c. f.shift k (m c)) → AsTight Le Moves n l m
      down m ok settled past zero under = λ c h. s.trans (l c) (f.shift zero (m c)) (m c) (under c h) (f.none (m c))
      down m ok settled past (suc k) under = down m ok settled past k
          (first.first (λ c. f.shift k (m c)) (λ c h. f.head k (m c) (ok c h)) (f.settled k m ok settled)
          (λ c h. ⊎_elim
          (λ (a : Le (d c) (b c)). s.trans (d c) (b c) (f.shift k (m c)) a (s.trans (b c) (m c) (f.shift k (m c)) (past c h) (f.tighter k (m c) (ok c h))))
          (λ (a : Le (l c) (d c) → ⊥). f.before k (l c) (d c) (m c) a (under c h)) (left c h)))

before_up : (k : ℕ) (x d y : ℤ) → (x ≤ℤ d → ⊥) → x ≤ℤ raised (suc k) y → d ≤ℤ raised k y
before_up k x d y out le = by_lt_z d x (λ lt. omega (arith, ints, clamps, lt, le)) (λ ge. absurd (out ge))

before_down : (k : ℕ) (x d y : ℤ) → (d ≤ℤ x → ⊥) → sunk (suc k) y ≤ℤ x → sunk k y ≤ℤ d
before_down k x d y out le = by_lt_z x d (λ lt. omega (arith, ints, clamps, lt, le)) (λ ge. absurd (out ge))

low_shiftable : (p : List Entries) → IsProblem p → IsShiftable ◌≤ℤ◌ (CanRise p) (length p)
low_shiftable p ok = record {
  shift = raised;
  head = λ k x head. record { above = omega (arith, ints, clamps, head.above); below = omega (arith, ints, clamps) };
  tighter = λ k x head. omega (arith, ints, clamps, head.below);
  none = λ x. omega (arith, ints, clamps);
  all = λ x y a b. omega (arith, ints, clamps, a.below, b.above);
  before = before_up;
  settled = raised_settled p ok;
}

high_shiftable : (p : List Entries) → IsProblem p → IsShiftable Ge (CanSink p) (length p)
high_shiftable p ok = record {
  shift = sunk;
  head = λ k x head. record { above = omega (arith, ints, clamps); below = omega (arith, ints, clamps, head.below) };
  tighter = λ k x head. omega (arith, ints, clamps, head.above);
  none = λ x. omega (arith, ints, clamps);
  all = λ x y a b. omega (arith, ints, clamps, a.above, b.below);
  before = before_down;
  settled = sunk_settled p ok;
}

pub leaving_settles : LeavingSettles
leaving_settles p b d l u ok inside pair left = record {
  low = first_of_left (low_side p ok) (low_shiftable p ok) (head_at b.floor) (head_at d.floor) l inside.low
      (λ c h. ⊎_elim (λ (a : head_at d.floor c ≤ℤ head_at b.floor c). inl a) (λ (a : head_at d.floor c <ℤ l c). inr (lt-not-le _ _ a)) (left.low c h)) pair.low;
  high = first_of_left (high_side p ok) (high_shiftable p ok) (head_at b.ceiling) (head_at d.ceiling) u inside.high
      (λ c h. ⊎_elim (λ (a : head_at b.ceiling c ≤ℤ head_at d.ceiling c). inl a) (λ (a : u c <ℤ head_at d.ceiling c). inr (lt-not-le _ _ a)) (left.high c h)) pair.high;
}
