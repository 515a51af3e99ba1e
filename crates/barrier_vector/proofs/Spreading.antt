-- One mark, and one step of a search after another.
use Rattle.barrier_vector.proofs.Common.{◌≡◌, ℕ, zero, suc, ◌+◌, ◌<◌, ◌⊎◌, inl, inr, refl, sym, ◌∙◌, ap, subst, arith, List, [], ◌∷◌, ◌++◌, length, length-append, Contains, Option, None, Some, Bool}
use Rattle.barrier_vector.proofs.Common.{true, false, not, set, slice_index, get_or-set_same, get_or-set_other, is_some, cases_eq, cases_lt, length-set, Contains-push, Contains-push_cases}
use Rattle.barrier_vector.proofs.Common.{Contains-append_left, Link, Entries, entries_at, link_at, mark_at, count_unmarked, LinkLeads, FrontLeads, Spreads}

pub no_both : (o : Option ℕ) (m : ℕ) → o ≡ None → o ≡ Some m → ⊥
no_both o m e f = cc

unmarked-set : (m : List (Option ℕ)) (c v : ℕ) → c < length m → mark_at m c ≡ None → suc (count_unmarked (set m c (Some v))) ≡ count_unmarked m
unmarked-set [] c v h e = absurd (omega arith)
unmarked-set (None ∷ xs) zero v h e = refl
unmarked-set (Some x ∷ xs) zero v h e = absurd (no_both (Some x) x e refl)
unmarked-set (None ∷ xs) (suc c) v h e = ap suc (unmarked-set xs c v (omega arith) e)
unmarked-set (Some x ∷ xs) (suc c) v h e = unmarked-set xs c v (omega arith) e

-- a cell without a mark gets it, and joins the list
pub spread_mark : (m : List (Option ℕ)) (before : List ℕ) (c v : ℕ) → c < length m → mark_at m c ≡ None → Spreads (λ k. k ≡ c) v m (set m c (Some v)) before (before ++ c ∷ [])
spread_mark m before c v h e = record {
  same = length-set m c (Some v);
  each = λ k.
      elim (cases_eq k c) [
        | inl i ↦ inr (
          subst (λ (z : ℕ). mark_at m z ≡ None) (sym i) e,
          subst (λ (z : ℕ). mark_at (set m c (Some v)) z ≡ Some v) (sym i) (get_or-set_same m c (Some v) None h),
          i,
          subst (λ (z : ℕ). Contains (before ++ c ∷ []) z) (sym i) (Contains-push before c),
        )
        | inr n ↦ inl (get_or-set_other m c k (Some v) None n)
      ];
  covers = λ k i. (v, subst (λ (z : ℕ). mark_at (set m c (Some v)) z ≡ Some v) (sym i) (get_or-set_same m c (Some v) None h));
  listed = λ k has.
      elim (Contains-push_cases before c k has) [
        | inl a ↦ inl a
        | inr i ↦ inr (subst (λ (z : ℕ). mark_at m z ≡ None) i e, subst (λ (z : ℕ). mark_at (set m c (Some v)) z ≡ Some v) i (get_or-set_same m c (Some v) None h))
      ];
  keeps = λ k has. Contains-append_left before (c ∷ []) k has;
  count = omega (arith, unmarked-set m c v h e, length-append before (c ∷ []));
}

-- a cell with a mark keeps it
pub spread_marked : (m : List (Option ℕ)) (before : List ℕ) (c v w : ℕ) → mark_at m c ≡ Some w → Spreads (λ k. k ≡ c) v m m before before
spread_marked m before c v w e = record {
  same = refl;
  each = λ k. inl refl;
  covers = λ k i. (w, subst (λ (z : ℕ). mark_at m z ≡ Some w) (sym i) e);
  listed = λ k has. inl has;
  keeps = λ k has. has;
  count = refl;
}

-- the same step, its cells named in another way
pub spread_as : (T U : ℕ → Type 0) (v : ℕ) (old new : List (Option ℕ)) (before after : List ℕ) → ((k : ℕ) → T k → U k) → ((k : ℕ) → U k → T k) →
    Spreads T v old new before after → Spreads U v old new before after
spread_as T U v old new before after to from s = grind (arith)

module _ (T U : ℕ → Type 0) (v : ℕ) (old mid new : List (Option ℕ)) (a b c : List ℕ) (s : Spreads T v old mid a b) (t : Spreads U v mid new b c) where
  each_k : (k : ℕ) → (mark_at new k ≡ mark_at old k) ⊎ ((mark_at old k ≡ None) × (mark_at new k ≡ Some v) × (T k ⊎ U k) × Contains c k)
  each_k k =
      elim (s.each k) [
        | inl e ↦ elim (t.each k) [
          | inl f ↦ inl (f ∙ e)
          | inr (n, m, u, has) ↦ inr (sym e ∙ n, m, inr u, has)
        ]
        | inr (n, m, y, has) ↦ elim (t.each k) [
          | inl f ↦ inr (n, f ∙ m, inl y, t.keeps k has)
          | inr (n', m', u, has') ↦ absurd (no_both _ v n' m)
        ]
      ]

  stays : (k m : ℕ) → mark_at mid k ≡ Some m → mark_at new k ≡ Some m
  stays k m e = elim (t.each k) [ inl f ↦ f ∙ e | inr (n, _, _, _) ↦ absurd (no_both _ m n e) ]

  covers_k : (k : ℕ) → T k ⊎ U k → (m : ℕ) × (mark_at new k ≡ Some m)
  covers_k k (inl y) = let (m, e) = s.covers k y in (m, stays k m e)
  covers_k k (inr u) = t.covers k u

  listed_k : (k : ℕ) → Contains c k → Contains a k ⊎ ((mark_at old k ≡ None) × (mark_at new k ≡ Some v))
  listed_k k has =
      elim (t.listed k has) [
        | inl earlier ↦ elim (s.listed k earlier) [
          | inl first ↦ inl first
          | inr (n, m) ↦ inr (n, stays k v m)
        ]
        | inr (n, m) ↦ elim (s.each k) [
          | inl e ↦ inr (sym e ∙ n, m)
          | inr (_, m', _, _) ↦ absurd (no_both _ v n m')
        ]
      ]

  -- one step after another
  pub spread_then : Spreads (λ k. T k ⊎ U k) v old new a c
  spread_then = record {
    same = t.same ∙ s.same;
    each = each_k;
    covers = covers_k;
    listed = listed_k;
    keeps = λ k has. t.keeps k (s.keeps k has);
    count = t.count ∙ s.count;
  }

-- the targets of one of the first i indices, by those of each index
abbrev AreBelow : (ℕ → ℕ → Type 0) → ℕ → ℕ → Type 0
AreBelow P i k = (j : ℕ) × (j < i) × P j k

spread_next : (P : ℕ → ℕ → Type 0) (i v : ℕ) (old mid new : List (Option ℕ)) (a b c : List ℕ) → Spreads (AreBelow P i) v old mid a b →
    Spreads (P i) v mid new b c → Spreads (AreBelow P (i + 1)) v old new a c
spread_next P i v old mid new a b c s t = spread_as (λ k. AreBelow P i k ⊎ P i k) (AreBelow P (i + 1)) v old new a c to from (spread_then (AreBelow P i) (P i) v old mid new a b c s t)
  where
    to : (k : ℕ) → AreBelow P i k ⊎ P i k → AreBelow P (i + 1) k
    to k (inl (j, h, e)) = (j, omega arith, e)
    to k (inr e) = (i, omega arith, e)

    from : (k : ℕ) → AreBelow P (i + 1) k → AreBelow P i k ⊎ P i k
    from k (j, h, e) =
        elim (cases_lt j i) [
          | inl less ↦ inl (j, less, e)
          | inr more ↦ let at : j ≡ i = omega arith in inr (subst (λ (z : ℕ). P z k) at e)
        ]

-- the links of a list, one after another
pub spread_link : (links : List Link) (i : ℕ) (x : Link) (v : ℕ) (old mid new : List (Option ℕ)) (a b c : List ℕ) → x ≡ link_at links i →
    Spreads (LinkLeads links i) v old mid a b → Spreads (λ k. k ≡ x.cell) v mid new b c → Spreads (LinkLeads links (i + 1)) v old new a c
spread_link links i x v old mid new a b c is s t =
    let same = ap (λ (y : Link). y.cell) is in
    spread_next (λ j k. (link_at links j).cell ≡ k) i v old mid new a b c s
    (spread_as (λ k. k ≡ x.cell) (λ k. (link_at links i).cell ≡ k) v mid new b c (λ k e. sym same ∙ sym e) (λ k e. sym e ∙ sym same) t)

-- a link of the cell of index j in the frontier leads to cell k
abbrev HereLeads : List Entries → List ℕ → ℕ → ℕ → Type 0
HereLeads p front j k = LinkLeads (entries_at p (slice_index front j)).links (length (entries_at p (slice_index front j)).links) k

-- how a test for a mark tells
pub none_by : (o : Option ℕ) (r : Bool) → is_some o ≡ not r → r ≡ true → o ≡ None
none_by None r e t = refl
none_by (Some x) r e t = absurd (cc (e, t))

pub some_by : (o : Option ℕ) (r : Bool) → is_some o ≡ not r → r ≡ false → (m : ℕ) × (o ≡ Some m)
some_by None r e t = absurd (cc (e, t))
some_by (Some x) r e t = (x, refl)

pub spread_marks : (m : List (Option ℕ)) (before after : List ℕ) (c v : ℕ) → after ≡ before ++ c ∷ [] → c < length m → mark_at m c ≡ None → Spreads (λ k. k ≡ c) v m (set m c (Some v)) before after
spread_marks m before after c v is h e = subst (λ (z : List ℕ). Spreads (λ k. k ≡ c) v m (set m c (Some v)) before z) (sym is) (spread_mark m before c v h e)

-- the cells of a frontier, one after another
pub spread_links : (p : List Entries) (front : List ℕ) (i : ℕ) (links : List Link) (v : ℕ) (old mid new : List (Option ℕ)) (a b c : List ℕ) → links ≡
    (entries_at p (slice_index front i)).links → Spreads (FrontLeads p front i) v old mid a b → Spreads (LinkLeads links (length links)) v mid new b c →
    Spreads (FrontLeads p front (i + 1)) v old new a c
spread_links p front i links v old mid new a b c is s t =
    spread_next (HereLeads p front) i v old mid new a b c s (subst (λ (z : List Link). Spreads (LinkLeads z (length z)) v mid new b c) is t)
