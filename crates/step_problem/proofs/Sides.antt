-- One side of the heads: what its order of tightness and its moves keep, and what follows of relaxed heads.
use Rattle.step_problem.proofs.Common.{◌≡◌, ℕ, ◌<◌, ◌⊎◌, ℤ, sym, subst, inl, inr, ⊎_elim, IsHead, AsTight, AreHeads, IsRelaxed, IsPast, IsSettled, IsCertified, IsFirstSettled, IsOnTheWay, zero, suc}
use Rattle.step_problem.proofs.Common.{IsRound, Rounds, RoundsSettle, IsNoTighterThanSettled, KeepsOrder}

-- tightness is an order, and a cell may go as far from heads that are as tight
pub record IsSide (Le : ℤ → ℤ → Type 0) (Moves : ℕ → ℤ → (ℕ → ℤ) → Type 0) (n : ℕ) : Type 0 where
  pub refl : (x : ℤ) → Le x x
  pub trans : (x y z : ℤ) → Le x y → Le y z → Le x z
  pub anti : (x y : ℤ) → Le x y → Le y x → x ≡ y
  pub helps : (c : ℕ) (v : ℤ) (l m : ℕ → ℤ) → c < n → AsTight Le Moves n l m → Moves c v l → Moves c v m

module _ {Le : ℤ → ℤ → Type 0} {Moves : ℕ → ℤ → (ℕ → ℤ) → Type 0} {n : ℕ} (s : IsSide Le Moves n) where
  pub as_tight_refl : (l : ℕ → ℤ) → AsTight Le Moves n l l
  as_tight_refl l c h = s.refl (l c)

  pub as_tight_trans : (k l m : ℕ → ℤ) → AsTight Le Moves n k l → AsTight Le Moves n l m → AsTight Le Moves n k m
  as_tight_trans k l m p q c h = s.trans (k c) (l c) (m c) (p c h) (q c h)

  -- heads that are equal below n are as tight
  pub same_as_tight : (l m : ℕ → ℤ) → ((c : ℕ) → c < n → m c ≡ l c) → AsTight Le Moves n l m
  same_as_tight l m e c h = subst (Le (l c)) (sym (e c h)) (s.refl (l c))

  pub same_as_loose : (l m : ℕ → ℤ) → ((c : ℕ) → c < n → m c ≡ l c) → AsTight Le Moves n m l
  same_as_loose l m e c h = subst (λ (x : ℤ). Le x (l c)) (sym (e c h)) (s.refl (l c))

  -- a relaxed head from tighter heads is as tight
  pub relaxed_rises : (l m : ℕ → ℤ) (c : ℕ) (r t : ℤ) → c < n → AsTight Le Moves n l m → IsRelaxed Le Moves n l c r → IsPast Le Moves n m c t → Le r t
  relaxed_rises l m c r t h b p q =
      ⊎_elim (λ (e : r ≡ l c). subst (λ (z : ℤ). Le z t) (sym e) (s.trans (l c) (m c) t (b c h) q.no_looser))
      (λ (g : IsHead r × Moves c r l). q.furthest r g.0 (s.helps c r l m h b g.1)) p.reached

  pub turn_passes : (l : ℕ → ℤ) (c : ℕ) (r : ℤ) → IsRelaxed Le Moves n l c r → IsPast Le Moves n l c r
  turn_passes l c r t = record { no_looser = t.no_looser; furthest = t.furthest }

  -- what is past a relaxed head from heads m is past that from looser ones, and so is what is tighter
  pub passes_more : (l m : ℕ → ℤ) (c : ℕ) (x y : ℤ) → c < n → AsTight Le Moves n l m → Le x y → IsPast Le Moves n m c x → IsPast Le Moves n l c y
  passes_more l m c x y h b le p = record {
    no_looser = s.trans (l c) (m c) y (b c h) (s.trans (m c) x y p.no_looser le);
    furthest = λ v ok g. s.trans v x y (p.furthest v ok (s.helps c v l m h b g)) le;
  }

  -- a relaxed head is a head
  pub relaxed_head : (l : ℕ → ℤ) (c : ℕ) (r : ℤ) → IsHead (l c) → IsRelaxed Le Moves n l c r → IsHead r
  relaxed_head l c r ok t = ⊎_elim (λ (e : r ≡ l c). subst IsHead (sym e) ok) (λ (g : IsHead r × Moves c r l). g.0) t.reached

  -- a relaxed head from heads under a settled vector stays under it
  pub turn_under : (seen m : ℕ → ℤ) (c : ℕ) (r : ℤ) → c < n → IsRelaxed Le Moves n seen c r → AsTight Le Moves n seen m → IsSettled Le Moves n m → Le r (m c)
  turn_under seen m c r h t b settled =
      ⊎_elim (λ (e : r ≡ seen c). subst (λ (x : ℤ). Le x (m c)) (sym e) (b c h))
      (λ (g : IsHead r × Moves c r seen). settled c h r g.0 (s.helps c r seen m h b g.1)) t.reached

  -- a cell that is certified stays so when the others become tighter
  pub edge_or_move_stays : (edge l m : ℕ → ℤ) (c : ℕ) → c < n → AsTight Le Moves n l m → Le (l c) (edge c) ⊎ Moves c (l c) l → Le (l c) (edge c) ⊎ Moves c (l c) m
  edge_or_move_stays edge l m c h up k = ⊎_elim (λ (a : Le (l c) (edge c)). inl a) (λ (b : Moves c (l c) l). inr (s.helps c (l c) l m h up b)) k

  -- heads on the way that are settled are the first settled ones
  pub first_settled : (edge l : ℕ → ℤ) → IsOnTheWay Le Moves n edge l → IsSettled Le Moves n l → IsFirstSettled Le Moves n edge l
  first_settled edge l k settled = record { heads = k.heads; past_barrier = k.past_barrier; settled = settled; first = k.under }

  -- the first settled vector is one
  pub first_settled_is_one : (edge l m : ℕ → ℤ) → IsFirstSettled Le Moves n edge l → IsFirstSettled Le Moves n edge m → (c : ℕ) → c < n → m c ≡ l c
  first_settled_is_one edge l m p q c h = s.anti (m c) (l c) (q.first l p.heads p.settled p.past_barrier c h) (p.first m q.heads q.settled q.past_barrier c h)

  -- a barrier's own heads are on the way
  pub edge_kept : (edge : ℕ → ℤ) → AreHeads Le Moves n edge → IsOnTheWay Le Moves n edge edge
  edge_kept edge ok = record { heads = ok; past_barrier = as_tight_refl edge; certified = λ c h. inl (s.refl (edge c)); under = λ m r settled b. b }

  -- being on the way is of the cells below n alone
  pub same_on_the_way : (edge l m : ℕ → ℤ) → ((c : ℕ) → c < n → m c ≡ l c) → IsOnTheWay Le Moves n edge l → IsOnTheWay Le Moves n edge m
  same_on_the_way edge l m e k = let up = same_as_tight l m e in record {
    heads = λ c h. subst IsHead (sym (e c h)) (k.heads c h);
    past_barrier = as_tight_trans edge l m k.past_barrier up;
    certified = λ c h. subst (λ (y : ℤ). Le y (edge c) ⊎ Moves c y m) (sym (e c h)) (edge_or_move_stays edge l m c h up (k.certified c h));
    under = λ x ok settled b c h. subst (λ (y : ℤ). Le y (x c)) (sym (e c h)) (k.under x ok settled b c h);
  }

  -- and so is being settled
  pub same_settled : (l m : ℕ → ℤ) → ((c : ℕ) → c < n → m c ≡ l c) → IsSettled Le Moves n l → IsSettled Le Moves n m
  same_settled l m e settled c h v ok g = subst (Le v) (sym (e c h)) (settled c h v ok (s.helps c v m l h (same_as_loose l m e) g))

  pub same_certified : (edge l m : ℕ → ℤ) → ((c : ℕ) → c < n → m c ≡ l c) → IsCertified Le Moves n edge l → IsCertified Le Moves n edge m
  same_certified edge l m e k c h = subst (λ (y : ℤ). Le y (edge c) ⊎ Moves c y m) (sym (e c h)) (edge_or_move_stays edge l m c h (same_as_tight l m e) (k c h))

-- Plain rounds on one side: they tighten, keep order, stay under settled heads, and are covered by sweeps.
-- next covers what a plain round makes of heads no tighter than w
abbrev pub CoversRound : (Le : ℤ → ℤ → Type 0) (Moves : ℕ → ℤ → (ℕ → ℤ) → Type 0) (n : ℕ) → (ℕ → ℤ) → (ℕ → ℤ) → Type 0
CoversRound Le Moves n w next = (x y : ℕ → ℤ) → AsTight Le Moves n x w → IsRound Le Moves n x y → AsTight Le Moves n y next

-- w covers what k plain rounds make of the heads edge
abbrev pub CoversRounds : (Le : ℤ → ℤ → Type 0) (Moves : ℕ → ℤ → (ℕ → ℤ) → Type 0) (n : ℕ) → ℕ → (ℕ → ℤ) → (ℕ → ℤ) → Type 0
CoversRounds Le Moves n k edge w = (x : ℕ → ℤ) → Rounds Le Moves n k edge x → AsTight Le Moves n x w

module _ {Le : ℤ → ℤ → Type 0} {Moves : ℕ → ℤ → (ℕ → ℤ) → Type 0} {n : ℕ} (s : IsSide Le Moves n) where
  pub round_tightens : (l m : ℕ → ℤ) → IsRound Le Moves n l m → AsTight Le Moves n l m
  round_tightens l m r c h = (r c h).no_looser

  pub round_rises : (k l x y : ℕ → ℤ) → AsTight Le Moves n k l → IsRound Le Moves n k x → IsRound Le Moves n l y → AsTight Le Moves n x y
  round_rises k l x y b p q c h = relaxed_rises s k l c (x c) (y c) h b (p c h) (turn_passes s l c (y c) (q c h))

  pub rounds_keep : KeepsOrder Le Moves n
  rounds_keep = record { tightens = round_tightens; monotone = round_rises }

  -- a round keeps heads on the way
  pub round_on_the_way : (edge l m : ℕ → ℤ) → IsOnTheWay Le Moves n edge l → IsRound Le Moves n l m → IsOnTheWay Le Moves n edge m
  round_on_the_way edge l m k r = let up = round_tightens l m r in record {
    heads = λ c h. relaxed_head s l c (m c) (k.heads c h) (r c h);
    past_barrier = as_tight_trans s edge l m k.past_barrier up;
    certified = λ c h. ⊎_elim
        (λ (e : m c ≡ l c). subst (λ (y : ℤ). Le y (edge c) ⊎ Moves c y m) (sym e) (edge_or_move_stays s edge l m c h up (k.certified c h)))
        (λ (g : IsHead (m c) × Moves c (m c) l). inr (s.helps c (m c) l m h up g.1)) (r c h).reached;
    under = λ x ok settled b c h. turn_under s l x c (m c) h (r c h) (k.under x ok settled b) settled;
  }

  -- so do k rounds from the barrier
  pub rounds_on_the_way : (k : ℕ) (edge m : ℕ → ℤ) → AreHeads Le Moves n edge → Rounds Le Moves n k edge m → IsOnTheWay Le Moves n edge m
  rounds_on_the_way zero edge m ok r = same_on_the_way s edge edge m r (edge_kept s edge ok)
  rounds_on_the_way (suc k) edge m ok (j, before, round) = round_on_the_way edge j m (rounds_on_the_way k edge j ok before) round

  -- what is past the relaxed head of each cell covers a round
  pub past_covers : (w next : ℕ → ℤ) → ((c : ℕ) → c < n → IsPast Le Moves n w c (next c)) → CoversRound Le Moves n w next
  past_covers w next p x y b r c h = relaxed_rises s x w c (y c) (next c) h b (r c h) (p c h)

  pub covers_none : (edge w : ℕ → ℤ) → AsTight Le Moves n edge w → CoversRounds Le Moves n zero edge w
  covers_none edge w b x e = as_tight_trans s x edge w (same_as_loose s edge x e) b

  pub covers_more : (k : ℕ) (edge w next : ℕ → ℤ) → CoversRounds Le Moves n k edge w → CoversRound Le Moves n w next → CoversRounds Le Moves n (suc k) edge next
  covers_more k edge w next p q x (j, before, round) = q j x (p j before) round

  -- heads that cover k rounds and are under the settled ones are settled where k rounds settle
  pub rounds_settle : (k : ℕ) (edge w : ℕ → ℤ) → AreHeads Le Moves n edge → IsNoTighterThanSettled Le Moves n edge w → CoversRounds Le Moves n k edge w →
      RoundsSettle Le Moves n k edge → IsSettled Le Moves n w
  rounds_settle k edge w ok under covers (m, rounds, settled) c h v head g =
      let way = rounds_on_the_way k edge m ok rounds in
      let b = under m way.heads settled way.past_barrier in
      s.trans v (m c) (w c) (settled c h v head (s.helps c v w m h b g)) (covers m rounds c h)
