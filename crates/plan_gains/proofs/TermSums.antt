-- The sum of a term over the first cells.
use Rattle.plan_gains.proofs.Common.{Entries, List, Term, TermPair, ap, capped_term, cell_more, entries_at, length, parts_hi, parts_lo, plus_pair, ℕ, ℤ, ◌+◌, ◌∙◌, ◌≡◌, Fixed, Flow, IsSum, branch_gain}
use Rattle.plan_gains.proofs.Common.{counts, drop, filter, map, true, well_gain, ◌≤◌, gains, term_gain, parts, sym, nothing_more}
use Rattle.step_problem.specs.declared.place.Dir.{Dir}
use Rattle.cell_balance.specs.{sum_below}
use Rattle.std.proofs.lemmas.List.{drop_all}

module _ (base p : List Entries) (l u : ℕ → ℤ) (dir : Dir) (t : Term) where
  -- what cell c gives
  abbrev pub cell_parts : ℕ → TermPair
  cell_parts c = parts dir (gains t (entries_at base c) (entries_at p c) (l c) (u c))

  -- the sum over the first n cells, which stops at the limit
  abbrev pub sums_below : ℕ → TermPair
  sums_below n = capped_term (record { lo = sum_below n (λ c. (cell_parts c).lo); hi = sum_below n (λ c. (cell_parts c).hi) })

  pub one_more : (c : ℕ) (s next : TermPair) → s ≡ sums_below c → next ≡ capped_term (plus_pair s (cell_parts c)) → next ≡ sums_below (c + 1)
  one_more c s next sum more = cell_more c cell_parts s next sum more (parts_lo dir _) (parts_hi dir _)

  pub all_below : (n : ℕ) (x : TermPair) → n ≡ length p → x ≡ sums_below n → x ≡ capped_term (term_gain base p l u dir t)
  unfolding term_gain
  all_below n x e sum = sum ∙ ap sums_below e

-- the sum after all branches of a list, and after all wells
pub branches_added : (dir : Dir) (t : Term) (l u : ℤ) (xs : List Fixed) (i : ℕ) (s whole : TermPair) → IsSum s → length xs ≤ i →
    capped_term (plus_pair s (parts dir (map (branch_gain l u) (filter (λ b. counts t b) (drop i xs))))) ≡ whole → s ≡ whole
branches_added dir t l u xs i s whole sum over h =
    sym (nothing_more dir s sum)
    ∙ ap (λ (ys : List Fixed). capped_term (plus_pair s (parts dir (map (branch_gain l u) (filter (λ b. counts t b) ys))))) (sym (drop_all i xs over)) ∙ h

pub wells_added : (dir : Dir) (xs : List Flow) (i : ℕ) (s whole : TermPair) → IsSum s → length xs ≤ i →
    capped_term (plus_pair s (parts dir (map well_gain (filter (λ q. true) (drop i xs))))) ≡ whole → s ≡ whole
wells_added dir xs i s whole sum over h =
    sym (nothing_more dir s sum) ∙ ap (λ (ys : List Flow). capped_term (plus_pair s (parts dir (map well_gain (filter (λ q. true) ys))))) (sym (drop_all i xs over)) ∙ h
