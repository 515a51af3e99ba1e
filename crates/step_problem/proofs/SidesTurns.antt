-- One exchange on one side: a word goes to the tighter of itself and a relaxed head from heads that were seen.
use Rattle.step_problem.proofs.Common.{◌≡◌, ℕ, ◌<◌, ◌⊎◌, ℤ, refl, sym, ◌∙◌, subst, inr, ⊎_elim, cases_eq, IsHead, AsTight, IsRelaxed, IsSettled, IsOnTheWay, AreSeen, IsExchange}
use Rattle.step_problem.proofs.Sides.{IsSide, as_tight_refl, as_tight_trans, relaxed_head, turn_under, edge_or_move_stays}

-- a fact of each cell, by whether it is cell c
pub by_cell : (P : ℕ → ℤ → Type 0) (l next : ℕ → ℤ) (c : ℕ) (w : ℤ) → next c ≡ w → ((d : ℕ) → (d ≡ c → ⊥) → next d ≡ l d) → P c w → (d : ℕ) → ((d ≡ c → ⊥) → P d (l d)) → P d (next d)
by_cell P l next c w here elsewhere p d others = ⊎_elim
    (λ (e : d ≡ c). subst (λ (k : ℕ). P k (next k)) (sym e) (subst (P c) (sym here) p))
    (λ (ne : d ≡ c → ⊥). subst (P d) (sym (elsewhere d ne)) (others ne)) (cases_eq d c)

module _ {Le : ℤ → ℤ → Type 0} {Moves : ℕ → ℤ → (ℕ → ℤ) → Type 0} {n : ℕ} (s : IsSide Le Moves n) where
  pub exchange_is_as_tight : (l : ℕ → ℤ) (c : ℕ) (r w : ℤ) (next : ℕ → ℤ) → IsExchange Le l c r w next → AsTight Le Moves n l next
  exchange_is_as_tight l c r w next x d h = by_cell (λ k z. Le (l k) z) l next c w x.here x.elsewhere x.old d (λ ne. s.refl (l d))

  -- one that has seen just the heads
  pub seen_itself : (edge l : ℕ → ℤ) → IsOnTheWay Le Moves n edge l → AreSeen Le Moves n l l
  seen_itself edge l k = record { behind = as_tight_refl s l; heads = k.heads }

  -- what was seen stays no tighter when the heads become tighter
  pub still_seen : (l next seen : ℕ → ℤ) → AsTight Le Moves n l next → AreSeen Le Moves n l seen → AreSeen Le Moves n next seen
  still_seen l next seen up f = record { behind = as_tight_trans s seen l next f.behind up; heads = f.heads }

  -- a look at cell c
  pub own_turn_keeps_seen : (l seen after : ℕ → ℤ) (c : ℕ) → IsHead (l c) → after c ≡ l c → ((d : ℕ) → (d ≡ c → ⊥) → after d ≡ seen d) → AreSeen Le Moves n l seen → AreSeen Le Moves n l after
  own_turn_keeps_seen l seen after c ok here elsewhere f = record {
    behind = λ d h. by_cell (λ k z. Le z (l k)) seen after c (l c) here elsewhere (s.refl (l c)) d (λ ne. f.behind d h);
    heads = λ d h. by_cell (λ k z. IsHead z) seen after c (l c) here elsewhere ok d (λ ne. f.heads d h);
  }

  -- what was seen is of the cells below n alone
  pub same_seen : (l m seen after : ℕ → ℤ) → ((c : ℕ) → c < n → m c ≡ l c) → ((c : ℕ) → c < n → after c ≡ seen c) → AreSeen Le Moves n l seen → AreSeen Le Moves n m after
  same_seen l m seen after e g f = record {
    behind = λ c h. subst (λ (y : ℤ). Le y (m c)) (sym (g c h)) (subst (Le (seen c)) (sym (e c h)) (f.behind c h));
    heads = λ c h. subst IsHead (sym (g c h)) (f.heads c h);
  }

  -- an exchange with a relaxed head from seen heads keeps heads on the way
  pub turn_keeps : (edge l seen next : ℕ → ℤ) (c : ℕ) (r w : ℤ) → c < n → IsOnTheWay Le Moves n edge l → AreSeen Le Moves n l seen →
      IsRelaxed Le Moves n seen c r → IsExchange Le l c r w next → IsOnTheWay Le Moves n edge next
  turn_keeps edge l seen next c r w h k fit t x = record {
    heads = λ d hd. by_cell (λ i z. IsHead z) l next c w x.here x.elsewhere head d (λ ne. k.heads d hd);
    past_barrier = as_tight_trans s edge l next k.past_barrier up;
    certified = λ d hd. by_cell (λ i z. Le z (edge i) ⊎ Moves i z next) l next c w x.here x.elsewhere certified d (λ ne. edge_or_move_stays s edge l next d hd up (k.certified d hd));
    under = λ m heads settled b. let old = k.under m heads settled b in
        λ d hd. by_cell (λ i z. Le z (m i)) l next c w x.here x.elsewhere (under m old settled) d (λ ne. old d hd);
  }
    where
      up : AsTight Le Moves n l next
      up = exchange_is_as_tight l c r w next x

      head : IsHead w
      head = ⊎_elim (λ (o : w ≡ l c). subst IsHead (sym o) (k.heads c h)) (λ (o : w ≡ r). subst IsHead (sym o) (relaxed_head s seen c r (fit.heads c h) t)) x.one

      old_certified : w ≡ l c → Le w (edge c) ⊎ Moves c w next
      old_certified o = subst (λ (y : ℤ). Le y (edge c) ⊎ Moves c y next) (sym o) (edge_or_move_stays s edge l next c h up (k.certified c h))

      certified : Le w (edge c) ⊎ Moves c w next
      certified = ⊎_elim old_certified
          (λ (o : w ≡ r). ⊎_elim
          (λ (a : r ≡ seen c). old_certified (s.anti w (l c) (subst (λ (y : ℤ). Le y (l c)) (sym (o ∙ a)) (fit.behind c h)) x.old))
          (λ (a : IsHead r × Moves c r seen).
          subst (λ (y : ℤ). Le y (edge c) ⊎ Moves c y next) (sym o) (inr (s.helps c r seen next h (as_tight_trans s seen l next fit.behind up) a.1)))
          t.reached) x.one

      under : (m : ℕ → ℤ) → AsTight Le Moves n l m → IsSettled Le Moves n m → Le w (m c)
      under m old settled = ⊎_elim (λ (o : w ≡ l c). subst (λ (y : ℤ). Le y (m c)) (sym o) (old c h))
          (λ (o : w ≡ r). subst (λ (y : ℤ). Le y (m c)) (sym o) (turn_under s seen m c r h t (as_tight_trans s seen l m fit.behind old) settled)) x.one

  -- heads that a relaxed head replaces, as in a sweep, are an exchange
  pub relaxed_exchange : (l next : ℕ → ℤ) (c : ℕ) (r : ℤ) → next c ≡ r → ((d : ℕ) → (d ≡ c → ⊥) → next d ≡ l d) → IsRelaxed Le Moves n l c r → IsExchange Le l c r r next
  relaxed_exchange l next c r here elsewhere t = record { here = here; elsewhere = elsewhere; old = t.no_looser; new = s.refl r; one = inr refl }

  -- so a sweep's step keeps heads on the way
  pub relaxed_keeps : (edge l next : ℕ → ℤ) (c : ℕ) (r : ℤ) → c < n → IsOnTheWay Le Moves n edge l → next c ≡ r → ((d : ℕ) → (d ≡ c → ⊥) → next d ≡ l d) →
      IsRelaxed Le Moves n l c r → IsOnTheWay Le Moves n edge next
  relaxed_keeps edge l next c r h k here elsewhere t = turn_keeps edge l l next c r r h k (seen_itself edge l k) t (relaxed_exchange l next c r here elsewhere t)
