-- The example meets all that the comparison asks.
use Rattle.cell_balance.proofs.Common.{◌≡◌, ℕ, zero, suc, ◌<◌, ◌⊎◌, inl, inr, refl, sym, arith, pos, neg_ℤ, ◌≤ℤ◌, true, nat_eq, cases_eq, ne_eqb, eq-eqb, ints, entries_at, Constant, lower_balance}
use Rattle.cell_balance.proofs.Common.{upper_balance, head_at, IsCertificate, SolvesStep, LiesBetween, LeadsTo, Leads, IsComponent, IsCarried, IsHeldBelow, IsComparable, example_problem, example_step}
use Rattle.cell_balance.proofs.Common.{example_heads, example_barrier, example_lows, example_highs, balance, share, cell_at}
use Rattle.cell_balance.proofs.ExampleProblem.{of_three, example_fits, example_encloses}

anchored : (c : ℕ) → c < 2 → Leads example_problem 0 c
anchored zero h = (0, refl, (record { kind = Constant; source = 0; lo = 9; hi = 11; head_lo = neg_ℤ (pos 1); head_hi = pos 1 }, (0, omega arith, refl), omega arith))
anchored (suc zero) h = (1, refl, (record { kind = Constant; source = 3; lo = 9; hi = 11; head_lo = pos 9999999999; head_hi = pos 10000000001 }, (0, omega arith, refl), omega arith))
anchored (suc (suc c)) h = absurd (omega arith)

third_component : IsComponent example_problem 2 (λ k. nat_eq k 2)
third_component = record { reached = reached; whole = whole }
  where
    reached : (k : ℕ) → nat_eq k 2 ≡ true → (j : ℕ) × LeadsTo example_problem j 2 k
    reached k t =
        elim (cases_eq k 2) [
          | inl e ↦ (0, sym e)
          | inr e ↦ absurd (cc (ne_eqb k 2 e))
        ]

    whole : (j k : ℕ) → LeadsTo example_problem j 2 k → nat_eq k 2 ≡ true
    whole zero k way = eq-eqb k 2 (sym way)
    whole (suc j) k (x, has, way) = absurd (omega (arith, has.1))

third_carried : IsCarried example_problem 2
third_carried = record { inside = λ k. nat_eq k 2; component = third_component; carries = omega (arith, ints) }

held : IsHeldBelow example_problem
held = of_three (λ c. ((j : ℕ) × Leads example_problem j c) ⊎ IsCarried example_problem c) (inl (0, anchored 0 (omega arith))) (inl (0, anchored 1 (omega arith))) (inr third_carried)

solves : SolvesStep example_step 3 example_heads
solves = of_three (λ c. (balance (cell_at example_step c) (share 3 (example_heads c)) (λ k. share 3 (example_heads k))).num ≡ pos 0) refl refl refl

certificate : IsCertificate example_problem example_barrier example_lows example_highs
certificate = record {
  low = of_three (λ c. (example_lows c ≤ℤ head_at example_barrier.floor c) ⊎
      (pos 0 ≤ℤ lower_balance (entries_at example_problem c) (example_lows c) example_lows)) (inr (omega (arith, ints))) (inr (omega (arith, ints)))
      (inr (omega (arith, ints)));
  high = of_three (λ c. (head_at example_barrier.ceiling c ≤ℤ example_highs c) ⊎
      (upper_balance (entries_at example_problem c) (example_highs c) example_highs ≤ℤ pos 0)) (inr (omega (arith, ints))) (inr (omega (arith, ints)))
      (inr (omega (arith, ints)));
}

barrier : LiesBetween 3 3 example_heads (head_at example_barrier.floor) (head_at example_barrier.ceiling)
barrier = grind (arith, of_three)

pub example_is_comparable : IsComparable example_problem example_barrier example_lows example_highs 1 example_step 3 example_heads
example_is_comparable = grind (arith, example_fits, held, certificate, example_encloses, solves, barrier)
