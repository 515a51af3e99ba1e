-- What a component of a problem has: a test, its sum of deep flows, a least cell, and a longest path to that cell.
use Rattle.barrier_vector.proofs.Common.{◌≡◌, ℕ, ◌<◌, ◌≤◌, ◌⊎◌, inl, inr, refl, ap, arith, List, length, Bool, cond, ℤ, pos, cases_lt, ints, by_lt_z, IsProblem, Entries, entries_at, IsComponent}
use Rattle.barrier_vector.proofs.Common.{IsCarried, sum_inside, deep_low, LeastRoot, IsInnerPath, IsLongest, lack, sum-same}
use Rattle.barrier_vector.proofs.{CarriedRoots.reaches_within, Uniques.inner_one, Uniques.same_tests, Decided.Decided, Decided.test_of, Decided.test_true, Decided.true_test, Decided.first_or_none}
use Rattle.barrier_vector.proofs.{Decided.lead_is_path, Gathering.greatest_covers, Gathering.greatest_of, Ways.LeadTo, Ways.leads_join, Ways.leading_decided}

module _ (p : List Entries) (ok : IsProblem p) where
  abbrev pub inside : ℕ → ℕ → Bool
  inside c k = test_of (LeadTo p c k) (leading_decided p ok c k)

  abbrev pub deep : ℕ → ℤ
  deep k = deep_low (entries_at p k)

  pub component : (c : ℕ) → IsComponent p c (inside c)
  component c = record {
    reached = λ k t. test_true (LeadTo p c k) (leading_decided p ok c k) t;
    whole = λ j k way. true_test (LeadTo p c k) (leading_decided p ok c k) (j, way);
  }

  -- any two tests of a component have one sum
  pub one_sum : (c : ℕ) (f g : ℕ → Bool) → IsComponent p c f → IsComponent p c g → sum_inside (length p) f deep ≡ sum_inside (length p) g deep
  one_sum c f g is other =
      sum-same (length p) (λ k. cond (f k) (deep k) (pos 0)) (λ k. cond (g k) (deep k) (pos 0))
      (λ k h. ap (λ (b : Bool). cond b (deep k) (pos 0)) (same_tests (f k) (g k) (λ t. let (j, way) = is.reached k t in other.whole j k way) (λ t.
      let (j, way) = other.reached k t in is.whole j k way)))

  pub carried_decided : (c : ℕ) → Decided (IsCarried p c)
  carried_decided c =
      by_lt_z (pos 0) (sum_inside (length p) (inside c) deep)
      (λ some. inl (record { inside = inside c; component = component c; carries = some }))
      (λ none. inr (λ carried. (omega (arith, ints, one_sum c carried.inside (inside c) carried.component (component c), carried.carries))))

  least_or_not : (c : ℕ) → Decided ((d : ℕ) × LeastRoot p c d)
  least_or_not c =
      elim (cases_lt c (length p)) [
        | inr past ↦ inr (λ r. let h = r.1.0 in omega (arith, h, past))
        | inl h ↦ elim (first_or_none (λ k. LeadTo p c k) c (λ k less. leading_decided p ok c k)) [
          | inl (k, is) ↦ inr (λ r. let le = r.1.1 is.has.0 k is.has.1 in let less = is.within in omega (arith, le, less))
          | inr none ↦ inl (0, (h, λ j k way. elim (cases_lt k c) [ inl less ↦ absurd (none k less (j, way)) | inr more ↦ more ], refl))
        ]
      ]

  -- each cell has a path to the least cell of its component
  pub inner_path : (c : ℕ) → c < length p → (s : ℕ) × IsInnerPath p c s
  inner_path c h =
      elim (first_or_none (λ k. LeadTo p c k) (length p) (λ k k_in. leading_decided p ok c k)) [
        | inr none ↦ absurd (none c h (0, refl))
        | inl (m, is) ↦
            lead_is_path p (lack p) (LeastRoot p) least_or_not is.has.0 c
            (record {
              root = m;
              drop = 0;
              is_root = (is.within, λ j k way. elim (cases_lt k m) [ inl less ↦ absurd (is.least k less (leads_join p ok c m k is.has (j, way))) | inr more ↦ more ], refl);
              reaches = is.has.1;
            })
      ]

  -- the path of a cell of the problem, 0 past its end
  path_by : (k : ℕ) → (k < length p) ⊎ (length p ≤ k) → ℕ
  path_by k (inl h) = (inner_path k h).0
  path_by k (inr past) = 0

  path_is : (k s : ℕ) (o : (k < length p) ⊎ (length p ≤ k)) → k < length p → IsInnerPath p k s → path_by k o ≡ s
  unfolding path_by
  path_is k s (inl h) k_in is = inner_one p ok k _ s (inner_path k h).1 is
  path_is k s (inr past) k_in is = absurd (omega (arith, past, k_in))

  -- each component has a longest path
  pub longest_path_exists : (c : ℕ) → c < length p → (t : ℕ) × IsLongest p c t
  longest_path_exists c h =
      let path_at : ℕ → ℕ = λ k. path_by k (cases_lt k (length p)) in
      let (k, k_in, on, is) = greatest_of (length p) (inside c) path_at c h (true_test (LeadTo p c c) (leading_decided p ok c c) (0, refl)) in
      let (j, way) = test_true (LeadTo p c k) (leading_decided p ok c k) on in
      let (s, path) = inner_path k k_in in
      let s_is = path_is k s (cases_lt k (length p)) k_in path in (
        s,
        record {
          cell = k;
          links = j;
          reached = way;
          is_path = path;
          longest = λ i l r on_way r_path.
              let l_in = reaches_within p ok i c l h on_way in
              let le = greatest_covers (length p) (inside c) path_at l l_in (true_test (LeadTo p c l) (leading_decided p ok c l) (i, on_way)) in
              omega (arith, le, is, s_is, path_is l r (cases_lt l (length p)) l_in r_path);
        },
      )
