-- Labels of components: one component is filled from its least cell, and one after another.
use Rattle.barrier_vector.proofs.Common.{◌≡◌, ℕ, zero, suc, ◌+◌, ◌<◌, ◌≤◌, ◌⊎◌, inl, inr, refl, sym, ◌∙◌, ap, subst, arith, List, [], length, Contains, Option, None, Some, All, slice_index, get_or}
use Rattle.barrier_vector.proofs.Common.{cases_lt, Contains-get_or, Link, Entries, entries_at, link_at, IsProblem, LeadsTo, mark_at, LinkLeads, FrontLeads, Spreads, AreLabels, Fills}
use Rattle.barrier_vector.proofs.{Spreading.no_both, Gathering.place_of, CarriedRoots.turn_way, CarriedRoots.join_ways, Levels.same_some, Levels.marked_or_not, Levels.marked_within, Levels.link_place}
use Rattle.barrier_vector.proofs.{Levels.no_member}

-- The cells filled so far are reached from c; those that aren't in the frontier have no neighbour without a label.
pub record Filling (p : List Entries) (c : ℕ) (start labels : List (Option ℕ)) (front : List ℕ) : Type 0 where
  pub whole : length labels ≡ length start
  pub each : (k : ℕ) → (mark_at labels k ≡ mark_at start k) ⊎ ((mark_at start k ≡ None) × (mark_at labels k ≡ Some c) × (j : ℕ) × LeadsTo p j c k)
  pub begun : mark_at labels c ≡ Some c
  pub front_of : (k : ℕ) → Contains front k → (mark_at start k ≡ None) × (mark_at labels k ≡ Some c)
  pub onward : (k : ℕ) → mark_at start k ≡ None → mark_at labels k ≡ Some c → Contains front k ⊎ ((x : Link) → Contains (entries_at p k).links x → (m : ℕ) × (mark_at labels x.cell ≡ Some m))

module _ (p : List Entries) (ok : IsProblem p) (c : ℕ) (start : List (Option ℕ)) where
  pub front_in : (labels : List (Option ℕ)) (front : List ℕ) → length start ≡ length p → Filling p c start labels front → All (λ k. k < length p) front
  front_in labels front whole f = λ j d h. let w = marked_within labels (get_or front j d) c (f.front_of (get_or front j d) (Contains-get_or front j d h)).1 in omega (arith, w, f.whole, whole)

  module _ (labels labels' : List (Option ℕ)) (front next : List ℕ) (f : Filling p c start labels front)
      (s : Spreads (FrontLeads p front (length front)) c labels labels' [] next)
    where
      stays : (k m : ℕ) → mark_at labels k ≡ Some m → mark_at labels' k ≡ Some m
      stays k m e = elim (s.each k) [ inl same ↦ same ∙ e | inr (n, _, _, _) ↦ absurd (no_both _ m n e) ]

      was_none : (k : ℕ) → mark_at labels k ≡ None → mark_at start k ≡ None
      was_none k e = elim (f.each k) [ inl same ↦ sym same ∙ e | inr (_, m, _, _) ↦ absurd (no_both _ c e m) ]

      next_of : (k : ℕ) → Contains next k → (mark_at labels k ≡ None) × (mark_at labels' k ≡ Some c)
      next_of k has = elim (s.listed k has) [ inl wrong ↦ absurd (no_member k wrong) | inr both ↦ both ]

      -- a cell of the frontier is reached from c
      front_reached : (k : ℕ) → Contains front k → (j : ℕ) × LeadsTo p j c k
      front_reached k has =
          let (none, some) = f.front_of k has in
          elim (f.each k) [ inl same ↦ absurd (no_both (mark_at labels k) c (same ∙ none) some) | inr (_, _, j, way) ↦ (j, way) ]

      target_reached : (k : ℕ) → FrontLeads p front (length front) k → (j : ℕ) × LeadsTo p j c k
      target_reached k (i, h, (l, l_in, e)) =
          let (j, way) = front_reached (slice_index front i) (Contains-get_or front i 0 h) in
          let x = link_at (entries_at p (slice_index front i)).links l in
          let has : Contains (entries_at p (slice_index front i)).links x = Contains-get_or (entries_at p (slice_index front i)).links l _ l_in in
          (j + 1, join_ways p ok j 1 c (slice_index front i) k way (x, has, e))

      each' : (k : ℕ) → (mark_at labels' k ≡ mark_at start k) ⊎ ((mark_at start k ≡ None) × (mark_at labels' k ≡ Some c) × (j : ℕ) × LeadsTo p j c k)
      each' k =
          elim (s.each k) [
            | inl same ↦ elim (f.each k) [
              | inl old ↦ inl (same ∙ old)
              | inr (n, m, j, way) ↦ inr (n, same ∙ m, j, way)
            ]
            | inr (n, m, t, has) ↦ let (j, way) = target_reached k t in inr (was_none k n, m, j, way)
          ]

      onward' : (k : ℕ) → mark_at start k ≡ None → mark_at labels' k ≡ Some c → Contains next k ⊎ ((x : Link) → Contains (entries_at p k).links x → (m : ℕ) × (mark_at labels' x.cell ≡ Some m))
      onward' k none some =
          elim (s.each k) [
            | inr (_, _, _, has) ↦ inl has
            | inl same ↦ elim (f.onward k none (sym same ∙ some)) [
              | inl has ↦ inr (λ x on. covered k has x on)
              | inr closed ↦ inr (λ x on. let (m, e) = closed x on in (m, stays x.cell m e))
            ]
          ]
        where
          covered : (k : ℕ) → Contains front k → (x : Link) → Contains (entries_at p k).links x → (m : ℕ) × (mark_at labels' x.cell ≡ Some m)
          covered k has x on =
              let (i, h, is) = place_of front k has in
              let (l, l_in, at) = link_place (entries_at p k).links x on in
              s.covers x.cell (i, h, subst (λ (z : ℕ). LinkLeads (entries_at p z).links (length (entries_at p z).links) x.cell) (sym is) (l, l_in, ap (λ (z : Link). z.cell) at))

      pub fill_more : Filling p c start labels' next
      fill_more = record { whole = s.same ∙ f.whole; each = each'; begun = stays c c f.begun; front_of = λ k has. let (n, m) = next_of k has in (was_none k n, m); onward = onward' }

-- labels are the same along a way
pub mark_holds_along_lead : (p : List Entries) (labels : List (Option ℕ)) (i : ℕ) → AreLabels p labels i → (j a b m : ℕ) → mark_at labels a ≡ Some m → LeadsTo p j a b → mark_at labels b ≡ Some m
mark_holds_along_lead p labels i l zero a b m e way = subst (λ (z : ℕ). mark_at labels z ≡ Some m) way e
mark_holds_along_lead p labels i l (suc j) a b m e (x, has, way) = mark_holds_along_lead p labels i l j x.cell b m (l.spread a m x e has) way

module _ (p : List Entries) (ok : IsProblem p) (labels labels' : List (Option ℕ)) (c : ℕ) (l : AreLabels p labels c) where
  pub labels_skip : (m : ℕ) → mark_at labels c ≡ Some m → AreLabels p labels (c + 1)
  labels_skip m e = record {
    whole = l.whole;
    spread = l.spread;
    reached = l.reached;
    least = l.least;
    all = λ a h. elim (cases_lt a c) [ inl less ↦ l.all a less | inr more ↦ let at : c ≡ a = omega arith in (m, subst (λ (z : ℕ). mark_at labels z ≡ Some m) at e) ];
  }

  module _ (none : mark_at labels c ≡ None) (f : Fills p c labels labels') where
    still : (a m : ℕ) → mark_at labels a ≡ Some m → mark_at labels' a ≡ Some m
    still a m e = elim (f.each a) [ inl same ↦ same ∙ e | inr (n, _, _, _) ↦ absurd (no_both _ m n e) ]

    before : (a m : ℕ) → mark_at labels' a ≡ Some m → (mark_at labels a ≡ Some m) ⊎ ((mark_at labels a ≡ None) × (m ≡ c) × (j : ℕ) × LeadsTo p j c a)
    before a m e = elim (f.each a) [ inl same ↦ inl (sym same ∙ e) | inr (n, some, j, way) ↦ inr (n, same_some (mark_at labels' a) m c e some, j, way) ]

    -- no cell that c reaches had a label
    untouched : (j k : ℕ) → LeadsTo p j c k → mark_at labels k ≡ None
    untouched j k way =
        elim (marked_or_not (mark_at labels k)) [
          | inl e ↦ e
          | inr (m, e) ↦ let (i, back_way) = turn_way p ok j c k way in absurd (no_both (mark_at labels c) m none (mark_holds_along_lead p labels c l i k c m e back_way))
        ]

    spread' : (a m : ℕ) (x : Link) → mark_at labels' a ≡ Some m → Contains (entries_at p a).links x → mark_at labels' x.cell ≡ Some m
    spread' a m x e on =
        elim (before a m e) [
          | inl old ↦ still x.cell m (l.spread a m x old on)
          | inr (n, is, j, way) ↦
              let (m', e') = f.closed a x n (subst (λ (z : ℕ). mark_at labels' a ≡ Some z) is e) on in
              elim (before x.cell m' e') [
                | inl old ↦ absurd (no_both (mark_at labels x.cell) m' (untouched (j + 1) x.cell (join_ways p ok j 1 c a x.cell way (x, on, refl))) old)
                | inr (_, is', _, _) ↦ subst (λ (z : ℕ). mark_at labels' x.cell ≡ Some z) (is' ∙ sym is) e'
              ]
        ]

    least' : (a m j k : ℕ) → mark_at labels' a ≡ Some m → LeadsTo p j m k → m ≤ k
    least' a m j k e way =
        elim (before a m e) [
          | inl old ↦ l.least a m j k old way
          | inr (n, is, _, _) ↦
              let from_c = subst (λ (z : ℕ). LeadsTo p j z k) is way in
              elim (cases_lt k c) [
                | inl less ↦ let (m', old) = l.all k less in absurd (no_both (mark_at labels k) m' (untouched j k from_c) old)
                | inr more ↦ omega (arith, is, more)
              ]
        ]

    pub labels_fill : AreLabels p labels' (c + 1)
    labels_fill = record {
      whole = f.whole ∙ l.whole;
      spread = spread';
      reached = λ a m e. elim (before a m e) [ inl old ↦ l.reached a m old | inr (_, is, j, way) ↦ (j, subst (λ (z : ℕ). LeadsTo p j z a) (sym is) way) ];
      least = least';
      all = λ a h.
          elim (cases_lt a c) [
            | inl less ↦ let (m, old) = l.all a less in (m, still a m old)
            | inr more ↦ let at : c ≡ a = omega arith in (c, subst (λ (z : ℕ). mark_at labels' z ≡ Some c) at f.begun)
          ];
    }
