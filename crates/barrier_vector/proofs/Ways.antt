-- Whether links lead from one cell of a problem to another is decided: by ways through ever more cells.
use Rattle.barrier_vector.proofs.Common.{◌≡◌, ℕ, zero, suc, ◌<◌, ◌⊎◌, inl, inr, refl, subst, arith, List, length, Contains, cases_eq, Link, IsProblem, Entries, entries_at, LeadsTo}
use Rattle.barrier_vector.proofs.{CarriedRoots.leads_within, CarriedRoots.join_ways, Decided.Decided, Decided.any_of}

-- links lead from cell a to cell b, and cells below k alone lie between them
abbrev Through : List Entries → ℕ → ℕ → ℕ → Type 0
Through p zero a b = (a ≡ b) ⊎ ((x : Link) × Contains (entries_at p a).links x × (x.cell ≡ b))
Through p (suc k) a b = Through p k a b ⊎ (Through p k a k × Through p k k b)

through_decided : (p : List Entries) (k a b : ℕ) → Decided (Through p k a b)
through_decided p zero a b =
    elim (cases_eq a b) [
      | inl e ↦ inl (inl e)
      | inr other ↦ elim (any_of (λ (x : Link). x.cell ≡ b) (entries_at p a).links (λ x. cases_eq x.cell b)) [
        | inl link ↦ inl (inr link)
        | inr none ↦ inr (λ way. elim way [ inl e ↦ other e | inr link ↦ none link ])
      ]
    ]
through_decided p (suc k) a b = grind (arith, through_decided p k a b, through_decided p k a k, through_decided p k k b)

directly : (p : List Entries) (k a b : ℕ) → Through p 0 a b → Through p k a b
directly p zero a b way = way
directly p (suc k) a b way = inl (directly p k a b way)

at_end : (p : List Entries) (k a : ℕ) → Through p (suc k) a k → Through p k a k
at_end p k a (inl way) = way
at_end p k a (inr by) = by.0

at_start : (p : List Entries) (k b : ℕ) → Through p (suc k) k b → Through p k k b
at_start p k b (inl way) = way
at_start p k b (inr by) = by.1

-- two ways through the cells up to k, if ways through the cells below k are joined at m
one_more : (p : List Entries) (k a m b : ℕ) → ((c d : ℕ) → Through p k c m → Through p k m d → Through p k c d) → Through p (suc k) a m → Through p (suc k) m b → Through p (suc k) a b
one_more p k a m b join (inl x) (inl y) = inl (join a b x y)
one_more p k a m b join (inl x) (inr y) = inr (join a k x y.0, y.1)
one_more p k a m b join (inr x) (inl y) = inr (x.0, join k b x.1 y)
one_more p k a m b join (inr x) (inr y) = inr (x.0, y.1)

-- ways are joined at a cell below k
joined : (p : List Entries) (k a m b : ℕ) → m < k → Through p k a m → Through p k m b → Through p k a b
joined p zero a m b h to from = absurd (omega arith)
joined p (suc k) a m b h to from =
    elim (cases_eq m k) [
      | inl e ↦ inr (at_end p k a (subst (λ (z : ℕ). Through p (suc k) a z) e to), at_start p k b (subst (λ (z : ℕ). Through p (suc k) z b) e from))
      | inr other ↦ one_more p k a m b (λ c d x y. joined p k c m d (omega (arith, h, other)) x y) to from
    ]

-- links lead from cell a to cell b
abbrev pub LeadTo : List Entries → ℕ → ℕ → Type 0
LeadTo p a b = (j : ℕ) × LeadsTo p j a b

module _ (p : List Entries) (ok : IsProblem p) where
  pub leads_join : (a b c : ℕ) → LeadTo p a b → LeadTo p b c → LeadTo p a c
  leads_join a b c (j, way) (k, further) = (_, join_ways p ok j k a b c way further)

  a_way : (k a b : ℕ) → Through p k a b → LeadTo p a b
  a_way zero a b (inl e) = (0, e)
  a_way zero a b (inr (x, has, e)) = (1, (x, has, e))
  a_way (suc k) a b (inl way) = a_way k a b way
  a_way (suc k) a b (inr (to, from)) = leads_join a k b (a_way k a k to) (a_way k k b from)

  through : (j a b : ℕ) → LeadsTo p j a b → Through p (length p) a b
  through zero a b e = directly p (length p) a b (inl e)
  through (suc j) a b (x, has, way) = joined p (length p) a x.cell b (leads_within p ok a x has) (directly p (length p) a x.cell (inr (x, has, refl))) (through j x.cell b way)

  pub leading_decided : (a b : ℕ) → Decided (LeadTo p a b)
  leading_decided a b = elim (through_decided p (length p) a b) [ inl way ↦ inl (a_way (length p) a b way) | inr apart ↦ inr (λ way. apart (through way.0 a b way.1)) ]
