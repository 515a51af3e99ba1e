-- The search by levels: after k steps just the cells of a level up to k are marked, those of level k are the frontier, and each has its path.
use Rattle.barrier_vector.proofs.Common.{◌≡◌, ℕ, zero, suc, ◌+◌, ◌<◌, ◌≤◌, ◌⊎◌, inl, inr, refl, sym, ◌∙◌, ap, subst, arith, List, [], ◌∷◌, length, Contains, min, Option, None, Some, All, take}
use Rattle.barrier_vector.proofs.Common.{take_at, ◌++◌, slice_index, get_or, cases_lt, get_or_default, get_or_past, Contains-get_or, Link, Entries, entries_at, link_at, no_link, IsProblem, LeadsTo}
use Rattle.barrier_vector.proofs.Common.{ceil_over, LeadsToRoot, IsLevel, IsParent, SumsTo, mark_at, count_unmarked, LinkLeads, FrontLeads, Spreads, path_limit, ListRoot, IsNearest, ContinuesTo}
use Rattle.barrier_vector.proofs.Common.{IsSearched, AreBegun}
use Rattle.barrier_vector.proofs.{Spreading.no_both, Gathering.place_of, CarriedRoots.links_are_mutual}

pub record IsUpTo (p : List Entries) (q : ℕ) (own : List (Option ℕ)) (k : ℕ) (levels : List (Option ℕ)) (paths front : List ℕ) : Type 0 where
  pub levels_whole : length levels ≡ length p
  pub paths_whole : length paths ≡ length p
  pub exact : (c j : ℕ) → mark_at levels c ≡ Some j → IsLevel p q (ListRoot own) c j × (j ≤ k)
  pub found : (c j : ℕ) → j ≤ k → LeadsToRoot p q (ListRoot own) j c → (m : ℕ) × (mark_at levels c ≡ Some m)
  pub front_of : (c : ℕ) → Contains front c → mark_at levels c ≡ Some k
  pub in_front : (c : ℕ) → mark_at levels c ≡ Some k → Contains front c
  pub room : 0 < length front → k + count_unmarked levels < length p
  pub path : (c j : ℕ) → mark_at levels c ≡ Some j → (s : ℕ) × SumsTo p q (ListRoot own) j c s × (slice_index paths c ≡ min s path_limit)

pub same_some : (o : Option ℕ) (i j : ℕ) → o ≡ Some i → o ≡ Some j → i ≡ j
same_some o i j e f = cc

pub marked_or_not : (o : Option ℕ) → (o ≡ None) ⊎ ((d : ℕ) × (o ≡ Some d))
marked_or_not None = inl refl
marked_or_not (Some d) = inr (d, refl)

-- a marked place lies in the list
pub marked_within : (m : List (Option ℕ)) (c v : ℕ) → mark_at m c ≡ Some v → c < length m
marked_within m c v e = elim (cases_lt c (length m)) [ inl h ↦ h | inr past ↦ absurd (no_both (mark_at m c) v (get_or_past m c None past) e) ]

-- where in a list a link stands
pub link_place : (xs : List Link) (x : Link) → Contains xs x → (j : ℕ) × (j < length xs) × (link_at xs j ≡ x)
link_place xs x has = (has.0, has.1, get_or_default xs has.0 no_link x has.1 ∙ has.2)

pub no_member : (c : ℕ) → Contains [] c → ⊥
no_member c has = omega (arith, has.1)

-- where no cell is unmarked, each has a mark
all_marked : (m : List (Option ℕ)) (c : ℕ) → count_unmarked m ≡ 0 → c < length m → mark_at m c ≡ None → ⊥
all_marked [] c e h none = omega arith
all_marked (None ∷ xs) c e h none = omega (arith, e)
all_marked (Some x ∷ xs) zero e h none = cc
all_marked (Some x ∷ xs) (suc c) e h none = all_marked xs c e (omega arith) none

-- a cell has one level
pub one_level : (p : List Entries) (q : ℕ) (R : ℕ → ℕ → Type 0) (c j k : ℕ) → IsLevel p q R c j → IsLevel p q R c k → j ≡ k
one_level p q R c j k a b = omega (arith, a.least k b.leads, b.least j a.leads)

module _ (p : List Entries) (ok : IsProblem p) (q : ℕ) (own : List (Option ℕ)) where
  abbrev Leads : ℕ → ℕ → Type 0
  Leads = LeadsToRoot p q (ListRoot own)

  -- one link more
  one_more : (j c : ℕ) (x : Link) → Contains (entries_at p c).links x → Leads j x.cell → Leads (suc j) c
  one_more j c x has l = record { root = l.root; drop = l.drop; is_root = l.is_root; reaches = (x, has, l.reaches) }

  -- a link to cell c leads from it too
  turned : (f c : ℕ) → LinkLeads (entries_at p f).links (length (entries_at p f).links) c → (z : Link) × Contains (entries_at p c).links z × (z.cell ≡ f)
  turned f c (j, h, e) =
      let x = link_at (entries_at p f).links j in
      let has : Contains (entries_at p f).links x = Contains-get_or (entries_at p f).links j no_link h in
      (record { cell = f; lo = x.lo; hi = x.hi }, subst (λ (z : ℕ). Contains (entries_at p z).links (record { cell = f; lo = x.lo; hi = x.hi })) e (links_are_mutual p ok f x has), refl)

  -- and a link from cell c leads to it too
  targeted : (c : ℕ) (x : Link) → Contains (entries_at p c).links x → LinkLeads (entries_at p x.cell).links (length (entries_at p x.cell).links) c
  targeted c x has = let (j, h, e) = link_place (entries_at p x.cell).links _ (links_are_mutual p ok c x has) in (j, h, ap (λ (z : Link). z.cell) e)

  pub up_to_start : (old levels : List (Option ℕ)) (paths front : List ℕ) → length own ≡ length p → length old ≡ length p → ((c : ℕ) → mark_at old c ≡ None) →
      count_unmarked old ≡ length p → AreBegun own (length own) old levels paths front → IsUpTo p q own 0 levels paths front
  up_to_start old levels paths front whole old_whole none all s = record {
    levels_whole = s.marks.same ∙ old_whole;
    paths_whole = s.whole ∙ whole;
    exact = λ c j e. let (d, is, zero_is, has) = rooted c j e in (
      record {
        leads = record { root = c; drop = d; is_root = is; reaches = subst (λ (n : ℕ). LeadsTo p n c c) (sym zero_is) refl };
        least = λ i l.
            omega (arith, zero_is);
      },
      omega (arith, zero_is),
    );
    found = λ c j h l. let nought : j ≡ 0 = omega arith in s.marks.covers c
        (let is = subst (λ (z : ℕ). mark_at own z ≡ Some l.drop) (sym (subst (λ (n : ℕ). LeadsTo p n c l.root) nought l.reaches)) l.is_root in
        (marked_within own c l.drop is, l.drop, is));
    front_of = λ c has. elim (s.marks.listed c has) [ inl wrong ↦ absurd (no_member c wrong) | inr both ↦ both.1 ];
    in_front = λ c e. (rooted c 0 e).3;
    room = λ h. let n = s.marks.count in omega (arith, n, all, h);
    path = λ c j e. let (d, is, zero_is, has) = rooted c j e in (d, subst (λ (n : ℕ). SumsTo p q (ListRoot own) n c d) (sym zero_is) is, s.paths_are c d (marked_within own c d is) is);
  }
    where
      rooted : (c j : ℕ) → mark_at levels c ≡ Some j → (d : ℕ) × (mark_at own c ≡ Some d) × (j ≡ 0) × Contains front c
      rooted c j e = elim (s.marks.each c) [ inl same ↦ absurd (no_both (mark_at levels c) j (same ∙ none c) e) | inr (n, m, root, has) ↦ (root.1, root.2, same_some (mark_at levels c) j 0 e m, has) ]

  module _ (k : ℕ) (levels levels' : List (Option ℕ)) (paths paths' front next : List ℕ)
      (u : IsUpTo p q own k levels paths front)
      (s : Spreads (FrontLeads p front (length front)) (suc k) levels levels' [] next)
      (same_paths : length paths' ≡ length paths)
      (others : (c : ℕ) → (Contains next c → ⊥) → slice_index paths' c ≡ slice_index paths c)
      (goes : (c : ℕ) → Contains next c → ContinuesTo p q levels' k paths c (slice_index paths' c))
    where
      stays : (c m : ℕ) → mark_at levels c ≡ Some m → mark_at levels' c ≡ Some m
      stays c m e = elim (s.each c) [ inl same ↦ same ∙ e | inr (n, _, _, _) ↦ absurd (no_both _ m n e) ]

      before : (c j : ℕ) → mark_at levels' c ≡ Some j → (mark_at levels c ≡ Some j) ⊎ ((mark_at levels c ≡ None) × (j ≡ suc k) × FrontLeads p front (length front) c × Contains next c)
      before c j e = elim (s.each c) [ inl same ↦ inl (sym same ∙ e) | inr (n, m, t, has) ↦ inr (n, same_some (mark_at levels' c) j (suc k) e m, t, has) ]

      -- the neighbour in the frontier
      neighbour : (c : ℕ) → FrontLeads p front (length front) c → (z : Link) × Contains (entries_at p c).links z × (mark_at levels z.cell ≡ Some k)
      neighbour c (i, h, t) =
          let (z, has, is) = turned (slice_index front i) c t in
          (z, has, subst (λ (n : ℕ). mark_at levels n ≡ Some k) (sym is) (u.front_of (slice_index front i) (Contains-get_or front i 0 h)))

      new_level : (c : ℕ) → mark_at levels c ≡ None → FrontLeads p front (length front) c → IsLevel p q (ListRoot own) c (suc k)
      new_level c none t =
          let (z, has, is) = neighbour c t in
          record {
            leads = one_more k c z has (u.exact z.cell k is).0.leads;
            least = λ j l. elim (cases_lt k j) [ inl less ↦ omega (arith, less) | inr more ↦ let (m, e) = u.found c j more l in absurd (no_both (mark_at levels c) m none e) ];
          }

      exact' : (c j : ℕ) → mark_at levels' c ≡ Some j → IsLevel p q (ListRoot own) c j × (j ≤ suc k)
      exact' c j e =
          elim (before c j e) [
            | inl old ↦ let (l, le) = u.exact c j old in (l, omega (arith, le))
            | inr (none, is, t, has) ↦ (subst (λ (n : ℕ). IsLevel p q (ListRoot own) c n) (sym is) (new_level c none t), omega (arith, is))
          ]

      found_next : (c : ℕ) → Leads (suc k) c → (m : ℕ) × (mark_at levels' c ≡ Some m)
      found_next c l =
          let (x, has, way) = l.reaches in
          let (m, e) = u.found x.cell k (omega arith) (record { root = l.root; drop = l.drop; is_root = l.is_root; reaches = way }) in
          let (level, le) = u.exact x.cell m e in
          elim (cases_lt m k) [
            | inl less ↦ let (m', e') = u.found c (suc m) (omega (arith, less)) (one_more m c x has level.leads) in (m', stays c m' e')
            | inr more ↦
                let at : m ≡ k = omega (arith, le, more) in
                let (i, h, is) = place_of front x.cell (u.in_front x.cell (subst (λ (n : ℕ). mark_at levels x.cell ≡ Some n) at e)) in
                s.covers c (i, h, subst (λ (n : ℕ). LinkLeads (entries_at p n).links (length (entries_at p n).links) c) (sym is) (targeted c x has))
          ]

      found' : (c j : ℕ) → j ≤ suc k → Leads j c → (m : ℕ) × (mark_at levels' c ≡ Some m)
      found' c j h l =
          elim (cases_lt k j) [
            | inl past ↦ let at : j ≡ suc k = omega (arith, past, h) in found_next c (subst (λ (n : ℕ). Leads n c) at l)
            | inr more ↦ let (m, e) = u.found c j more l in (m, stays c m e)
          ]

      next_of : (c : ℕ) → Contains next c → (mark_at levels c ≡ None) × (mark_at levels' c ≡ Some (suc k))
      next_of c has = elim (s.listed c has) [ inl wrong ↦ absurd (no_member c wrong) | inr both ↦ both ]

      in_next : (c : ℕ) → mark_at levels' c ≡ Some (suc k) → Contains next c
      in_next c e = elim (before c (suc k) e) [ inl old ↦ let le = (u.exact c (suc k) old).1 in absurd (omega (arith, le)) | inr (_, _, _, has) ↦ has ]

      room' : 0 < length next → suc k + count_unmarked levels' < length p
      room' h =
          let one : Contains next (slice_index next 0) = Contains-get_or next 0 0 h in
          let (none, some) = next_of (slice_index next 0) one in
          elim (before (slice_index next 0) (suc k) some) [
            | inl old ↦ absurd (no_both _ (suc k) none old)
            | inr (_, _, t, _) ↦ let (i, less, _) = t in let enough = u.room (omega (arith, less)) in let n = s.count in omega arith
          ]

      -- the parent is the nearest neighbour of the level before
      is_parent : (c : ℕ) (x : Link) → IsNearest (entries_at p c).links levels' k (length (entries_at p c).links) x → IsParent p q (ListRoot own) k c x
      is_parent c x near = record {
        has = near.has;
        level = (exact' x.cell k near.level_is).0;
        least = λ z has level.
            let (m, e) = found' z.cell k (omega arith) level.leads in
            let at = one_level p q (ListRoot own) z.cell m k (exact' z.cell m e).0 level in
            let (j, h, is) = link_place (entries_at p c).links z has in
            subst (λ (y : Link). x.cell ≤ y.cell) is (near.least j h (subst (λ (y : Link). mark_at levels' y.cell ≡ Some k) (sym is) (subst (λ (n : ℕ). mark_at levels' z.cell ≡ Some n) at e)));
      }

      new_path : (c : ℕ) → mark_at levels c ≡ None → FrontLeads p front (length front) c → Contains next c → (s : ℕ) × SumsTo p q (ListRoot own) (suc k) c s × (slice_index paths' c ≡ min s path_limit)
      new_path c none t has =
          elim (goes c has) [
            | inr apart ↦
                let (z, on, is) = neighbour c t in
                let (j, h, at) = link_place (entries_at p c).links z on in
                absurd (apart j h (subst (λ (y : Link). mark_at levels' y.cell ≡ Some k) (sym at) (stays z.cell k is)))
            | inl (x, near, is) ↦
                let old = elim (before x.cell k near.level_is) as (λ w. mark_at levels x.cell ≡ Some k) [ inl o ↦ o | inr (_, wrong, _, _) ↦ absurd (omega (arith, wrong)) ] in
                let (rest, sum, cut) = u.path x.cell k old in
                (ceil_over q x.lo + rest, (x, is_parent c x near, rest, sum, refl), is ∙ (omega arith))
          ]

      path' : (c j : ℕ) → mark_at levels' c ≡ Some j → (s : ℕ) × SumsTo p q (ListRoot own) j c s × (slice_index paths' c ≡ min s path_limit)
      path' c j e =
          elim (before c j e) [
            | inl old ↦ let (t, sum, cut) = u.path c j old in (t, sum, others c (λ has. no_both _ j (next_of c has).0 old) ∙ cut)
            | inr (none, is, t, has) ↦ let (v, sum, cut) = new_path c none t has in (v, subst (λ (n : ℕ). SumsTo p q (ListRoot own) n c v) (sym is) sum, cut)
          ]

      pub up_to_more : IsUpTo p q own (suc k) levels' paths' next
      up_to_more = record {
        levels_whole = s.same ∙ u.levels_whole;
        paths_whole = same_paths ∙ u.paths_whole;
        exact = exact';
        found = found';
        front_of = λ c has. (next_of c has).1;
        in_front = in_next;
        room = room';
        path = path';
      }

  module _ (k : ℕ) (levels : List (Option ℕ)) (paths front : List ℕ) (u : IsUpTo p q own k levels paths front) where
    all_found : length front ≡ 0 → (j c : ℕ) → Leads j c → (m : ℕ) × (mark_at levels c ≡ Some m)
    all_found empty zero c l = u.found c 0 (omega arith) l
    all_found empty (suc j) c l =
        let (x, has, way) = l.reaches in
        let (m, e) = all_found empty j x.cell (record { root = l.root; drop = l.drop; is_root = l.is_root; reaches = way }) in
        let (level, le) = u.exact x.cell m e in
        elim (cases_lt m k) [
          | inl less ↦ u.found c (suc m) (omega (arith, less)) (one_more m c x has level.leads)
          | inr more ↦
              let at : m ≡ k = omega (arith, le, more) in
              let on = u.in_front x.cell (subst (λ (n : ℕ). mark_at levels x.cell ≡ Some n) at e) in
              let h = on.1 in absurd (omega (arith, h, empty))
        ]

    searched : ((c : ℕ) → c < length p → mark_at levels c ≡ None → (j : ℕ) → Leads j c → ⊥) → IsSearched p q own levels paths
    searched none = record {
      levels_whole = u.levels_whole;
      paths_whole = u.paths_whole;
      none = none;
      some = λ c j e. let (s, sum, cut) = u.path c j e in (s, record { level = j; is_level = (u.exact c j e).0; sums = sum }, cut);
    }

    -- the search is at its end where no cell is left, or the frontier is empty
    pub searched_at_end : (count_unmarked levels ≡ 0) ⊎ (length front ≡ 0) → IsSearched p q own levels paths
    searched_at_end (inl none_left) = searched (λ c h e j l. all_marked levels c none_left (subst (λ (n : ℕ). c < n) (sym u.levels_whole) h) e)
    searched_at_end (inr empty) = searched (λ c h e j l. let (m, is) = all_found empty j c l in no_both _ m e is)

-- what a search holds after some steps: the level of each cell that was reached, its path, and the cells of the last level
pub record Search : Type 0 where
  pub levels : List (Option ℕ)
  pub paths : List ℕ
  pub front : List ℕ

-- a step marks the cells next to the frontier, which are the next one, and gives each its path
pub record IsStep (p : List Entries) (q k : ℕ) (old new : Search) : Type 0 where
  pub spreads : Spreads (FrontLeads p old.front (length old.front)) (k + 1) old.levels new.levels [] new.front
  pub same : length new.paths ≡ length old.paths
  pub others : (c : ℕ) → (Contains new.front c → ⊥) → slice_index new.paths c ≡ slice_index old.paths c
  pub continues : (c : ℕ) → Contains new.front c → ContinuesTo p q new.levels k old.paths c (slice_index new.paths c)

pub step_reaches_next_level : (p : List Entries) → IsProblem p → (q : ℕ) (own : List (Option ℕ)) (k : ℕ) (old new : Search) →
    IsUpTo p q own k old.levels old.paths old.front → IsStep p q k old new → IsUpTo p q own (k + 1) new.levels new.paths new.front
step_reaches_next_level p ok q own k old new u s =
    let next : suc k ≡ k + 1 = omega arith in
    let spreads = subst (λ (n : ℕ). Spreads (FrontLeads p old.front (length old.front)) n old.levels new.levels [] new.front) (sym next) s.spreads in
    subst (λ (n : ℕ). IsUpTo p q own n new.levels new.paths new.front) next
    (up_to_more p ok q own k old.levels new.levels old.paths new.paths old.front new.front u spreads s.same s.others s.continues)

pub front_within : (p : List Entries) (q : ℕ) (own : List (Option ℕ)) (k : ℕ) (levels : List (Option ℕ)) (paths front : List ℕ) → IsUpTo p q own k levels paths front → All (λ c. c < length p) front
front_within p q own k levels paths front u = λ j d h.
    let w = marked_within levels (get_or front j d) k (u.front_of (get_or front j d) (Contains-get_or front j d h)) in omega (arith, w, u.levels_whole)

pub next_within : (T : ℕ → Type 0) (n v : ℕ) (old new : List (Option ℕ)) (next : List ℕ) → length old ≡ n → Spreads T v old new [] next → All (λ c. c < n) next
next_within T n v old new next whole s = λ j d h.
    elim (s.listed (get_or next j d) (Contains-get_or next j d h)) [
      | inl wrong ↦ absurd (no_member _ wrong)
      | inr (_, some) ↦ let w = marked_within new (get_or next j d) v some in omega (arith, w, s.same, whole)
    ]

pub next_past : (T : ℕ → Type 0) (v k : ℕ) (old new : List (Option ℕ)) (next : List ℕ) → (v ≡ k → ⊥) → Spreads T v old new [] next → All (λ c. mark_at new c ≡ Some k → ⊥) next
next_past T v k old new next apart s = λ j d h e.
    elim (s.listed (get_or next j d) (Contains-get_or next j d h)) [
      | inl wrong ↦ absurd (no_member _ wrong)
      | inr (_, some) ↦ apart (same_some (mark_at new (get_or next j d)) v k some e)
    ]

pub take_of_append : {X : Type 0} (xs ys : List X) (n : ℕ) → n ≡ length xs → take n (xs ++ ys) ≡ xs
take_of_append xs ys n e = take_at xs ys n (sym e)
