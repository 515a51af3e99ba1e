-- Links lead back, so that ways can be turned round and joined; and a component has one least cell.
use Rattle.barrier_vector.proofs.Common.{◌≡◌, ℕ, zero, suc, ◌+◌, ◌<◌, inl, inr, refl, sym, subst, arith, List, Contains, length, cases_lt, Link, Entries, entries_at, IsProblem, no_entries, LinkFits}
use Rattle.barrier_vector.proofs.Common.{LeadsTo, LeastRoot, get_or_past, All-contains}

-- a cell with an entry is a cell of the problem
pub has_links : (p : List Entries) (c : ℕ) (x : Link) → Contains (entries_at p c).links x → c < length p
has_links p c x has = elim (cases_lt c (length p))
    [ inl h ↦ h | inr past ↦ let none = subst (λ (e : Entries). Contains e.links x) (get_or_past p c no_entries past) has in absurd (omega (arith, none.1)) ]

module _ (p : List Entries) (ok : IsProblem p) where
  pub leads_within : (c : ℕ) (x : Link) → Contains (entries_at p c).links x → x.cell < length p
  leads_within c x has = All-contains (λ (z : Link). z.cell < length p) (entries_at p c).links x ((ok.links c (has_links p c x has)).within) has

  pub link_conducts : (c : ℕ) (x : Link) → Contains (entries_at p c).links x → 0 < x.lo
  link_conducts c x has = (All-contains LinkFits (entries_at p c).links x ((ok.cells c (has_links p c x has)).links) has).conducts

  pub links_are_mutual : (c : ℕ) (x : Link) → Contains (entries_at p c).links x → Contains (entries_at p x.cell).links (record { cell = c; lo = x.lo; hi = x.hi })
  links_are_mutual c x has = All-contains (λ (z : Link). Contains (entries_at p z.cell).links (record { cell = c; lo = z.lo; hi = z.hi })) (entries_at p c).links x
      ((ok.links c (has_links p c x has)).mutual_ends) has

  pub reaches_within : (j a b : ℕ) → a < length p → LeadsTo p j a b → b < length p
  reaches_within zero a b h e = subst (λ (z : ℕ). z < length p) e h
  reaches_within (suc j) a b h (x, has, way) = reaches_within j x.cell b (leads_within a x has) way

  pub join_ways : (j k a b c : ℕ) → LeadsTo p j a b → LeadsTo p k b c → LeadsTo p (j + k) a c
  join_ways zero k a b c e way = subst (λ (z : ℕ). LeadsTo p (0 + k) z c) (sym e) (subst (λ (n : ℕ). LeadsTo p n b c) (plain k) way)
    where
      plain : (n : ℕ) → n ≡ 0 + n
      plain n = omega arith
  join_ways (suc j) k a b c (x, has, way) further = subst (λ (n : ℕ). LeadsTo p n a c) (next j k) (x, has, join_ways j k x.cell b c way further)
    where
      next : (m n : ℕ) → suc (m + n) ≡ suc m + n
      next m n = omega arith

  pub turn_way : (j a b : ℕ) → LeadsTo p j a b → (k : ℕ) × LeadsTo p k b a
  turn_way zero a b e = (0, sym e)
  turn_way (suc j) a b (x, has, way) = let (k, rest) = turn_way j x.cell b way in (k + 1, join_ways k 1 b x.cell a rest (record { cell = a; lo = x.lo; hi = x.hi }, links_are_mutual a x has, refl))

module _ (p : List Entries) (ok : IsProblem p) (r : ℕ) (root : LeastRoot p r 0) where
  -- the component's least cell is its one root
  pub same_root : (c j k t d : ℕ) → LeadsTo p j c r → LeadsTo p k c t → LeastRoot p t d → t ≡ r
  same_root c j k t d to_r to_t other =
      let (j', from_r) = turn_way p ok j c r to_r in
      let (k', from_t) = turn_way p ok k c t to_t in
      let low = root.1 (j' + k) t (join_ways p ok j' k r c t from_r to_t) in
      let high = other.1 (k' + j) r (join_ways p ok k' j t c r from_t to_r) in
      omega (arith, low, high)
