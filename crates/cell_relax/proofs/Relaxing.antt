-- The search for a relaxed head.
use Rattle.cell_relax.proofs.Common.{◌≡◌, ℕ, ◌⊎◌, inl, inr, refl, arith, sym, ◌∙◌, subst, List, ℤ, pos, ◌-ℤ◌, ◌≤ℤ◌, ◌<ℤ◌, ◌+◌, ◌<◌, ap, [], ◌∷◌, ◌++◌, length, take, slice_set, All, get_or, ints}
use Rattle.cell_relax.proofs.Common.{by_lt_z, Side, Low, High, Entries, entries_at, ends_in, IsHead, balance, no_link, link_at, balance_falls, IsAsTight, LetsMove, Moves, IsRelaxedOn, turned_on}
use Rattle.std.proofs.{lemmas.List.take_more, lemmas.List.take_more_set, lemmas.List.map-append, lemmas.List.Elements.All-map}
use Rattle.step_problem.specs.declared.entry.Link.{Link}

turned_back : (side : Side) (v : ℤ) → turned_on side (turned_on side v) ≡ v
turned_back Low v = refl
turned_back High v = omega (arith, ints)

tight_turned : (side : Side) (x y : ℤ) → turned_on side x ≤ℤ y → IsAsTight side x (turned_on side y)
tight_turned Low x y h = h
tight_turned High x y h = omega (arith, ints, h)

pub head_turned : (side : Side) (v : ℤ) → IsHead v → IsHead (turned_on side v)
head_turned Low v h = h
head_turned High v h = record { above = omega (arith, ints, h.below); below = omega (arith, ints, h.above) }

-- a cell that may go somewhere may stop before
falls_on : (side : Side) (c : Entries) (h : ℕ → ℤ) (v w : ℤ) → v ≤ℤ w → LetsMove side (balance side c (turned_on side w) h) → LetsMove side (balance side c (turned_on side v) h)
falls_on Low c h v w le moves = let falls = balance_falls Low c h v w le in omega (arith, ints, falls, moves)
falls_on High c h v w le moves = let falls = balance_falls High c h (turned_on High w) (turned_on High v) (omega (arith, ints, le)) in omega (arith, ints, falls, moves)

-- turned upwards: a head to which the cell may go, or its own, and one further to which it may not
pub record Relaxing (side : Side) (p : List Entries) (c : ℕ) (own : ℤ) (values : List ℤ) (reached beyond : ℤ) : Type 0 where
  pub head : IsHead reached
  pub no_looser : turned_on side own ≤ℤ reached
  pub apart : reached <ℤ beyond
  pub limit : beyond ≤ℤ pos 4000000000000000001
  pub may : (h : ℕ → ℤ) → ends_in h (entries_at p c).links ≡ values → (turned_on side reached ≡ own) ⊎ Moves side p c (turned_on side reached) h
  pub may_not : (h : ℕ → ℤ) → ends_in h (entries_at p c).links ≡ values → (v : ℤ) → IsHead v → Moves side p c (turned_on side v) h → v <ℤ beyond

-- b is the balance of cell c at its head v
abbrev pub IsBalanceAt : Side → List Entries → ℕ → List ℤ → ℤ → ℤ → Type 0
IsBalanceAt side p c values v b = (h : ℕ → ℤ) → ends_in h (entries_at p c).links ≡ values → b ≡ balance side (entries_at p c) v h

module _ (side : Side) (p : List Entries) (c : ℕ) (own : ℤ) (values : List ℤ) where
  pub relax_reaches : (reached beyond middle at b : ℤ) → Relaxing side p c own values reached beyond → reached <ℤ middle → middle <ℤ beyond → at ≡
      turned_on side middle → IsBalanceAt side p c values at b → LetsMove side b → Relaxing side p c own values middle beyond
  relax_reaches reached beyond middle at b s above below turned is lets = record {
    head = record { above = omega (arith, ints, above, s.head.above); below = omega (arith, ints, below, s.limit) };
    no_looser = omega (arith, ints, above, s.no_looser);
    apart = below;
    limit = s.limit;
    may = λ h e. inr (subst (λ (x : ℤ). Moves side p c x h) turned (subst (LetsMove side) (is h e) lets));
    may_not = s.may_not;
  }

  pub relax_bounds : (reached beyond middle at b : ℤ) → Relaxing side p c own values reached beyond → reached <ℤ middle → middle <ℤ beyond → at ≡
      turned_on side middle → IsBalanceAt side p c values at b → (LetsMove side b → ⊥) → Relaxing side p c own values reached middle
  relax_bounds reached beyond middle at b s above below turned is stops = record {
    head = s.head;
    no_looser = s.no_looser;
    apart = above;
    limit = omega (arith, ints, below, s.limit);
    may = s.may;
    may_not = λ h e v in_range moves. by_lt_z v middle (λ less. less)
        (λ le. absurd (stops (subst (LetsMove side) (sym (is h e)) (subst (λ (x : ℤ). Moves side p c x h) (sym turned) (falls_on side (entries_at p c) h middle v le moves)))));
  }

  pub relax_end : (reached beyond : ℤ) → Relaxing side p c own values reached beyond → (beyond -ℤ reached) ≤ℤ pos 1 → (l : ℕ → ℤ) → l c ≡ own →
      ends_in l (entries_at p c).links ≡ values → IsRelaxedOn side p l c (turned_on side reached)
  relax_end reached beyond s near l here ends = record {
    no_looser = subst (λ (x : ℤ). IsAsTight side x (turned_on side reached)) (sym here) (tight_turned side own reached s.no_looser);
    furthest = λ v in_range moves.
        let less = s.may_not l ends (turned_on side v) (head_turned side v in_range) (subst (λ (x : ℤ). Moves side p c x l) (sym (turned_back side v)) moves) in
        tight_turned side v reached (omega (arith, ints, less, near));
    reached = elim (s.may l ends) [
      | inl e ↦ inl (e ∙ sym here)
      | inr moves ↦ inr (head_turned side reached s.head, moves)
    ];
  }

-- Heads that are read from words are in range.
pub ends_in_range : (n : ℕ) (h : ℕ → ℤ) → ((c : ℕ) → c < n → IsHead (h c)) → (links : List Link) → All (λ x. x.cell < n) links → All IsHead (ends_in h links)
ends_in_range n h heads links within = All-map IsHead (λ (x : Link). h x.cell) links (λ k d i. heads (get_or links k d).cell (within k d i))

-- one more head is read
pub read_more : (values : List ℤ) (links : List Link) (h : ℕ → ℤ) (i : ℕ) (z : ℤ) → i < length values → i < length links → take i values ≡
    ends_in h (take i links) → z ≡ h (link_at links i).cell → take (i + 1) (slice_set values i z) ≡ ends_in h (take (i + 1) links)
read_more values links h i z room here before is =
    take_more_set values i z room ∙ ap (λ (xs : List ℤ). xs ++ z ∷ []) before ∙ ap (λ (x : ℤ). ends_in h (take i links) ++ x ∷ []) is
    ∙ sym (ap (λ (xs : List Link). ends_in h xs) (take_more links i no_link here) ∙ map-append (λ (x : Link). h x.cell) (take i links) (link_at links i ∷ []))
