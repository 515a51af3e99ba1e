-- The sums of a term's branches over all cells enclose the exact sums.
use Rattle.plan_enclosed.proofs.Common.{AllZip, AllZip-at, AreWithin, CellEncloses, EnclosesSigned, Entries, ExactCell, Fraction, List, PairEncloses, Term, TermPair, [], ap, arith, below_encloses}
use Rattle.plan_enclosed.proofs.Common.{cell_at, clamps, entries_at, fraction_total, ints, length, no_cell, no_entries, refl, subst, suc, sum_below, sum_by_branches, sym, total, total_below}
use Rattle.plan_enclosed.proofs.Common.{total_encloses, zero, ℕ, ℤ, ◌+◌, ◌-ℤ◌, ◌<◌, ◌+ℤ◌, ◌∷◌, ◌≡◌, gains, parts, term_gain, net_of}
use Rattle.step_problem.specs.declared.place.Dir.TheVariants.{In, Out}
use Rattle.plan_enclosed.proofs.Gains.{gains_within, exact_gains}

-- what goes in less what goes out is the sum of all
parts_net : (xs : List TermPair) → net_of (parts In xs) (parts Out xs) ≡ record { lo = total (λ x. x.lo) xs; hi = total (λ x. x.hi) xs }
unfolding parts
parts_net [] = refl
parts_net (x ∷ xs) =
    let lo : (net_of (parts In (x ∷ xs)) (parts Out (x ∷ xs))).lo ≡ x.lo +ℤ total (λ y. y.lo) xs = omega (arith, ints, clamps, ap (λ (t : TermPair). t.lo) (parts_net xs)) in
    let hi : (net_of (parts In (x ∷ xs)) (parts Out (x ∷ xs))).hi ≡ x.hi +ℤ total (λ y. y.hi) xs = omega (arith, ints, clamps, ap (λ (t : TermPair). t.hi) (parts_net xs)) in
    λ i. record { lo = lo i; hi = hi i }

below_net : (n : ℕ) (f g h : ℕ → ℤ) → ((c : ℕ) → f c -ℤ g c ≡ h c) → sum_below n f -ℤ sum_below n g ≡ sum_below n h
below_net zero f g h each = refl
below_net (suc n) f g h each = omega (arith, ints, each n, below_net n f g h each)

module _ (s : ℕ) (base p : List Entries) (e g : List ExactCell) (zs : ℕ → Fraction) (l u : ℕ → ℤ) (bases : AllZip (CellEncloses s) base e) (ofs : AllZip (CellEncloses s) p g)
    (count : length base ≡ length p) (own : AreWithin (length p) zs l u) (t : Term) where
  abbrev cell_gains : ℕ → List TermPair
  cell_gains c = gains t (entries_at base c) (entries_at p c) (l c) (u c)

  cell_within : (c : ℕ) → c < length p →
      EnclosesSigned (total (λ x. x.lo) (cell_gains c)) (total (λ x. x.hi) (cell_gains c)) (s + 9) (fraction_total (λ q. q) (exact_gains t (cell_at e c) (cell_at g c) (zs c)))
  cell_within c lt =
      total_encloses (PairEncloses (s + 9)) (λ (x : TermPair). x.lo) (λ (x : TermPair). x.hi) (s + 9) (λ (q : Fraction). q) (λ x q h. h.within) (cell_gains c)
      (exact_gains t (cell_at e c) (cell_at g c) (zs c))
      (gains_within s (zs c) (l c) (u c) (own c lt) (entries_at base c) (entries_at p c) (cell_at e c) (cell_at g c)
      (AllZip-at (CellEncloses s) base e c no_entries no_cell bases (omega (arith, lt, count))) (AllZip-at (CellEncloses s) p g c no_entries no_cell ofs lt) t)

  lower_is : (sum_by_branches base p l u t).lo ≡ sum_below (length p) (λ c. total (λ x. x.lo) (cell_gains c))
  unfolding term_gain
  lower_is = below_net (length p) _ _ _ (λ c. ap (λ (t : TermPair). t.lo) (parts_net (cell_gains c)))

  upper_is : (sum_by_branches base p l u t).hi ≡ sum_below (length p) (λ c. total (λ x. x.hi) (cell_gains c))
  unfolding term_gain
  upper_is = below_net (length p) _ _ _ (λ c. ap (λ (t : TermPair). t.hi) (parts_net (cell_gains c)))

  pub sums_within : EnclosesSigned (sum_by_branches base p l u t).lo (sum_by_branches base p l u t).hi (s + 9)
      (total_below (length p) (λ c. fraction_total (λ q. q) (exact_gains t (cell_at e c) (cell_at g c) (zs c))))
  sums_within =
      let F : Fraction = total_below (length p) (λ c. fraction_total (λ q. q) (exact_gains t (cell_at e c) (cell_at g c) (zs c))) in
      let L : ℤ → Type 0 = λ lo. EnclosesSigned lo (sum_by_branches base p l u t).hi (s + 9) F in
      let H : ℤ → Type 0 = λ hi. EnclosesSigned (sum_below (length p) (λ c. total (λ x. x.lo) (cell_gains c))) hi (s + 9) F in
      subst L (sym lower_is) (subst H (sym upper_is)
      (below_encloses (length p) (λ c. total (λ x. x.lo) (cell_gains c)) (λ c. total (λ x. x.hi) (cell_gains c)) (s + 9)
      (λ c. fraction_total (λ q. q) (exact_gains t (cell_at e c) (cell_at g c) (zs c))) cell_within))
