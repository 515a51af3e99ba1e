-- Both sides of a problem can be searched, so there is one settled pair, and it is a certificate.
use Rattle.step_problem.proofs.Common.{◌≡◌, ℕ, ◌⊎◌, inl, inr, arith, ℤ, pos, negsuc, ◌+ℤ◌, ◌-ℤ◌, ◌≤ℤ◌, List, ints, by_lt_z, up, Entries, entries_at, IsHead, head_limit, Ge, CanRise, CanSink, head_at}
use Rattle.step_problem.proofs.Common.{SettledPairExists, SettledPairIsOne, SettledPairCertifies, Low, High}
use Rattle.step_problem.proofs.{Falls.balance_falls, BothSides.low_side, BothSides.high_side, BothSides.le_trans, BothSides.le_anti, SidesSettled.IsSearchable, SidesSettled.first_settled_is_there}
use Rattle.step_problem.proofs.{SidesSettled.first_settled_certifies}

-- how many heads are above v, and below it
above : ℤ → ℕ
above v = up (pos head_limit -ℤ v)

below : ℤ → ℕ
below v = up (v +ℤ pos head_limit)

up_is : (z : ℤ) → pos 0 ≤ℤ z → pos (up z) ≡ z
up_is (pos k) h = omega (arith, ints)
up_is (negsuc k) h = absurd (omega (arith, ints))

above_is : (v : ℤ) → IsHead v → pos (above v) ≡ pos head_limit -ℤ v
unfolding above
above_is v ok = up_is (pos head_limit -ℤ v) (omega (arith, ints))

below_is : (v : ℤ) → IsHead v → pos (below v) ≡ v +ℤ pos head_limit
unfolding below
below_is v ok = up_is (v +ℤ pos head_limit) (omega (arith, ints))

one_up : (x v : ℤ) → (v ≤ℤ x) ⊎ ((x +ℤ pos 1) ≤ℤ v)
one_up x v = by_lt_z x v (λ h. inr (omega (arith, ints))) (λ h. inl h)

one_down : (x v : ℤ) → (x ≤ℤ v) ⊎ (v ≤ℤ (x -ℤ pos 1))
one_down x v = by_lt_z v x (λ h. inr (omega (arith, ints))) (λ h. inl h)

decide_le : (a b : ℤ) → (a ≤ℤ b) ⊎ (a ≤ℤ b → ⊥)
decide_le a b = by_lt_z b a (λ h. inr (λ k. omega (arith, ints))) (λ h. inl h)

pub low_searchable : (p : List Entries) → IsSearchable ◌≤ℤ◌ (CanRise p)
low_searchable p = record {
  room = above;
  next = λ v. v +ℤ pos 1;
  at_end = λ x ok e v head. omega (arith, ints, above_is x ok, head.below, e);
  is_next = λ x k ok e. let head : IsHead (x +ℤ pos 1) = record { above = omega (arith, ints, above_is x ok, ok.above, e); below = omega (arith, ints, above_is x ok, ok.above, e) } in record {
    head = head;
    tighter = omega (arith, ints);
    room_left = omega (arith, ints, above_is x ok, above_is (x +ℤ pos 1) head, e);
    between = one_up x;
  };
  less_room = λ x y p q le. omega (arith, ints, above_is x p, above_is y q, le);
  same_room = λ x y p q le e. omega (arith, ints, above_is x p, above_is y q, e);
  decide = λ c v l. decide_le _ _;
  stops_before = λ c v w l le can. le_trans _ _ _ can (balance_falls Low (entries_at p c) l v w le);
}

pub high_searchable : (p : List Entries) → IsSearchable Ge (CanSink p)
high_searchable p = record {
  room = below;
  next = λ v. v -ℤ pos 1;
  at_end = λ x ok e v head. omega (arith, ints, below_is x ok, head.above, e);
  is_next = λ x k ok e. let head : IsHead (x -ℤ pos 1) = record { above = omega (arith, ints, below_is x ok, ok.below, e); below = omega (arith, ints, below_is x ok, ok.below, e) } in record {
    head = head;
    tighter = omega (arith, ints);
    room_left = omega (arith, ints, below_is x ok, below_is (x -ℤ pos 1) head, e);
    between = one_down x;
  };
  less_room = λ x y p q le. omega (arith, ints, below_is x p, below_is y q, le);
  same_room = λ x y p q le e. omega (arith, ints, below_is x p, below_is y q, e);
  decide = λ c v u. decide_le _ _;
  stops_before = λ c v w u le can. le_trans _ _ _ (balance_falls High (entries_at p c) u w v le) can;
}

pub settled_pair_is_there : SettledPairExists
settled_pair_is_there p b ok barrier =
    let (l, low) = first_settled_is_there (low_side p ok) (low_searchable p) (head_at b.floor) barrier.floor in
    let (u, high) = first_settled_is_there (high_side p ok) (high_searchable p) (head_at b.ceiling) barrier.ceiling in
    (l, u, record { low = low; high = high })

pub pair_certifies : SettledPairCertifies
pair_certifies p b l u ok barrier pair = record {
  low = first_settled_certifies (low_side p ok) (low_searchable p) (head_at b.floor) l barrier.floor pair.low;
  high = first_settled_certifies (high_side p ok) (high_searchable p) (head_at b.ceiling) u barrier.ceiling pair.high;
}

pub settled_pair_is_one : SettledPairIsOne
settled_pair_is_one p b l u x y s t c h = (
  le_anti (x c) (l c) (t.low.first l s.low.heads s.low.settled s.low.past_barrier c h) (s.low.first x t.low.heads t.low.settled t.low.past_barrier c h),
  le_anti (y c) (u c) (s.high.first y t.high.heads t.high.settled t.high.past_barrier c h) (t.high.first u s.high.heads s.high.settled s.high.past_barrier c h),
)
