-- On one side the first settled heads are there: rounds from the barrier reach them, since each makes the room that is left less.
use Rattle.step_problem.proofs.Common.{◌≡◌, ℕ, zero, suc, ◌+◌, ◌<◌, ◌≤◌, sym, subst, arith, ℤ, ⊎_elim, ◌⊎◌, refl, inl, inr, cases_lt, cases_eq, AsTight, AreHeads, IsRound, IsSettled, IsCertified}
use Rattle.step_problem.proofs.Common.{IsFirstSettled, IsOnTheWay, IsHead, IsRelaxed}
use Rattle.step_problem.proofs.Sides.{IsSide, edge_kept, first_settled, first_settled_is_one, same_certified, round_tightens, round_on_the_way}

-- On one side the relaxed heads are there: a search over the range of heads finds each.
-- y is the next tighter head after x, and has k heads after it
pub record IsNext (Le : ℤ → ℤ → Type 0) (room : ℤ → ℕ) (x y : ℤ) (k : ℕ) : Type 0 where
  pub head : IsHead y
  pub tighter : Le x y
  pub room_left : room y ≡ k
  pub between : (v : ℤ) → Le v x ⊎ Le y v

-- the heads of a side are in a row, so many after each, and whether a cell may go to one is decided; it may stop before
pub record IsSearchable (Le : ℤ → ℤ → Type 0) (Moves : ℕ → ℤ → (ℕ → ℤ) → Type 0) : Type 0 where
  pub room : ℤ → ℕ
  pub next : ℤ → ℤ
  pub at_end : (x : ℤ) → IsHead x → room x ≡ 0 → (v : ℤ) → IsHead v → Le v x
  pub is_next : (x : ℤ) (k : ℕ) → IsHead x → room x ≡ suc k → IsNext Le room x (next x) k
  pub less_room : (x y : ℤ) → IsHead x → IsHead y → Le x y → room y ≤ room x
  pub same_room : (x y : ℤ) → IsHead x → IsHead y → Le x y → room y ≡ room x → y ≡ x
  pub decide : (c : ℕ) (v : ℤ) (l : ℕ → ℤ) → Moves c v l ⊎ (Moves c v l → ⊥)
  pub stops_before : (c : ℕ) (v w : ℤ) (l : ℕ → ℤ) → Le v w → Moves c w l → Moves c v l

module _ {Le : ℤ → ℤ → Type 0} {Moves : ℕ → ℤ → (ℕ → ℤ) → Type 0} {n : ℕ} (s : IsSide Le Moves n) (f : IsSearchable Le Moves) where
  search_from : (k : ℕ) (l : ℕ → ℤ) (c : ℕ) (x : ℤ) → f.room x ≡ k → IsHead x → Le (l c) x → (x ≡ l c) ⊎ (IsHead x × Moves c x l) → (r : ℤ) × IsRelaxed Le Moves n l c r
  search_from zero l c x e ok kept reached = (x, record { no_looser = kept; furthest = λ v head g. f.at_end x ok e v head; reached = reached })
  search_from (suc k) l c x e ok kept reached =
      let y : IsNext Le f.room x (f.next x) k = f.is_next x k ok e in ⊎_elim
      (λ (can : Moves c (f.next x) l). search_from k l c (f.next x) y.room_left y.head (s.trans (l c) x (f.next x) kept y.tighter) (inr (y.head, can)))
      (λ (cannot : Moves c (f.next x) l → ⊥). (
        x,
        record {
          no_looser = kept;
          furthest = λ v head g. ⊎_elim (λ (a : Le v x). a) (λ (a : Le (f.next x) v). absurd (cannot (f.stops_before c (f.next x) v l a g))) (y.between v);
          reached = reached;
        },
      ))
      (f.decide c (f.next x) l)

  pub relaxed_is_there : (l : ℕ → ℤ) (c : ℕ) → IsHead (l c) → (r : ℤ) × IsRelaxed Le Moves n l c r
  relaxed_is_there l c ok = search_from (f.room (l c)) l c (l c) refl ok (s.refl (l c)) (inl refl)

  -- the relaxed head of a cell of the problem, the head itself elsewhere
  pick : (l : ℕ → ℤ) → AreHeads Le Moves n l → (c : ℕ) → (c < n) ⊎ (n ≤ c) → (r : ℤ) × (c < n → IsRelaxed Le Moves n l c r)
  pick l ok c (inl h) = let t : (r : ℤ) × IsRelaxed Le Moves n l c r = relaxed_is_there l c (ok c h) in (t.0, λ i. t.1)
  pick l ok c (inr h) = (l c, λ i. absurd (omega arith))

  pub round_is_there : (l : ℕ → ℤ) → AreHeads Le Moves n l → (m : ℕ → ℤ) × IsRound Le Moves n l m
  round_is_there l ok = (λ c. (pick l ok c (cases_lt c n)).0, λ c h. (pick l ok c (cases_lt c n)).1 h)

-- the sum of f over the numbers below k
abbrev upto : ℕ → (ℕ → ℕ) → ℕ
upto zero f = 0
upto (suc k) f = upto k f + f k

upto_le : (k : ℕ) (f g : ℕ → ℕ) → ((c : ℕ) → c < k → f c ≤ g c) → upto k f ≤ upto k g
upto_le zero f g each = omega arith
upto_le (suc k) f g each = omega (arith, upto_le k f g (λ c h. each c (omega arith)), each k (omega arith))

-- where no term is greater and the sums are equal, the terms are
upto_same : (k : ℕ) (f g : ℕ → ℕ) → ((c : ℕ) → c < k → f c ≤ g c) → upto k g ≤ upto k f → (c : ℕ) → c < k → f c ≡ g c
upto_same zero f g each e c h = absurd (omega arith)
upto_same (suc k) f g each e c h =
    let below = upto_le k f g (λ d i. each d (omega arith)) in
    let last = each k (omega arith) in
    ⊎_elim (λ (here : c ≡ k). subst (λ (d : ℕ). f d ≡ g d) (sym here) (omega (arith, below, last, e)))
    (λ (ne : c ≡ k → ⊥). upto_same k f g (λ d i. each d (omega arith)) (omega (arith, below, last, e)) c (omega arith)) (cases_eq c k)

module _ {Le : ℤ → ℤ → Type 0} {Moves : ℕ → ℤ → (ℕ → ℤ) → Type 0} {n : ℕ} (s : IsSide Le Moves n) (f : IsSearchable Le Moves) where
  room_left : (ℕ → ℤ) → ℕ
  room_left l = upto n (λ c. f.room (l c))

  less_each : (l m : ℕ → ℤ) → AreHeads Le Moves n l → AreHeads Le Moves n m → AsTight Le Moves n l m → (c : ℕ) → c < n → f.room (m c) ≤ f.room (l c)
  less_each l m p q up c h = f.less_room (l c) (m c) (p c h) (q c h) (up c h)

  -- a round that leaves as much room has changed nothing: the heads were settled
  same_room_settled : (l m : ℕ → ℤ) → AreHeads Le Moves n l → AreHeads Le Moves n m → IsRound Le Moves n l m → room_left l ≤ room_left m → IsSettled Le Moves n l
  unfolding room_left
  same_room_settled l m p q round same c h v head g =
      let up : AsTight Le Moves n l m = round_tightens s l m round in
      let e = upto_same n (λ d. f.room (m d)) (λ d. f.room (l d)) (less_each l m p q up) same c h in
      subst (Le v) (f.same_room (l c) (m c) (p c h) (q c h) (up c h) e) ((round c h).furthest v head g)

  settle_from : (k : ℕ) (edge l : ℕ → ℤ) → room_left l ≤ k → IsOnTheWay Le Moves n edge l → (m : ℕ → ℤ) × IsOnTheWay Le Moves n edge m × IsSettled Le Moves n m
  settle_from zero edge l small way =
      let (m, round) = round_is_there s f l way.heads in
      let next = round_on_the_way s edge l m way round in
      (l, way, same_room_settled l m way.heads next.heads round (omega arith))
  settle_from (suc k) edge l small way =
      let (m, round) = round_is_there s f l way.heads in
      let next = round_on_the_way s edge l m way round in ⊎_elim
      (λ (less : room_left m < room_left l). settle_from k edge m (omega arith) next)
      (λ (same : room_left l ≤ room_left m). (l, way, same_room_settled l m way.heads next.heads round same))
      (cases_lt (room_left m) (room_left l))

  pub settled_on_the_way : (edge : ℕ → ℤ) → AreHeads Le Moves n edge → (m : ℕ → ℤ) × IsOnTheWay Le Moves n edge m × IsSettled Le Moves n m
  settled_on_the_way edge ok = settle_from (room_left edge) edge edge (omega arith) (edge_kept s edge ok)

  pub first_settled_is_there : (edge : ℕ → ℤ) → AreHeads Le Moves n edge → (m : ℕ → ℤ) × IsFirstSettled Le Moves n edge m
  first_settled_is_there edge ok = let (m, way, settled) = settled_on_the_way edge ok in (m, first_settled s edge m way settled)

  -- the first settled heads are those that rounds reach, which are certified
  pub first_settled_certifies : (edge l : ℕ → ℤ) → AreHeads Le Moves n edge → IsFirstSettled Le Moves n edge l → IsCertified Le Moves n edge l
  first_settled_certifies edge l ok first =
      let (m, way, settled) = settled_on_the_way edge ok in
      same_certified s edge m l (first_settled_is_one s edge m l (first_settled s edge m way settled) first) way.certified
