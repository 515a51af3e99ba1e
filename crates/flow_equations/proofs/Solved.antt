-- The worked models are solved by their histories: everything is computed.
use Rattle.flow_equations.proofs.Common.{◌≡◌, ℕ, zero, suc, ◌<◌, true, ℤ, pos, negsuc, [], ◌∷◌, refl, arith, false≢true, scaled_ratio, ratio, plus, over, IsOver, power, geometric, storage, given_in}
use Rattle.flow_equations.proofs.Common.{variable_below, is_constant, constant_head, start_head, half, in_a_row, row_conductance, entries_of, SolvesStep, exact_step, Solves, heads_of, variable_heads}
use Rattle.flow_equations.proofs.Common.{three_cells, idle_wells, one_cell}
use Rattle.step_problem.specs.{head_at}
use Rattle.decimal_input.specs.Ratios.{times as product}
use Rattle.model_types.specs.{times}

-- heads of 10, 15 and 20
abbrev rising : ℕ → ℤ
rising = head_at (pos 10 ∷ pos 15 ∷ pos 20 ∷ [])

three_constant : (c : ℕ) → c < 3 → is_constant three_cells 1 c ≡ true → IsOver 1 (constant_head three_cells 1 1 c) (rising c)
unfolding given_in constant_head scaled_ratio ratio
three_constant zero lt is = record { is = refl }
three_constant (suc zero) lt is = absurd (false≢true is)
three_constant (suc (suc zero)) lt is = record { is = refl }
three_constant (suc (suc (suc c))) lt is = absurd (omega (arith, lt))

three_balances : SolvesStep (exact_step three_cells 1 1 (start_head three_cells)) 1 (variable_heads (exact_step three_cells 1 1 (start_head three_cells)) rising)
unfolding variable_below given_in constant_head row_conductance in_a_row half entries_of scaled_ratio ratio plus product over
three_balances zero lt = refl
three_balances (suc c) lt = absurd (omega (arith, lt))

pub three_solved : Solves three_cells 1 (rising ∷ [])
unfolding times
three_solved = record { some = omega arith; steps = (record { constant = three_constant; balances = three_balances }, tt) }

idle_constant : (c : ℕ) → c < 4 → is_constant idle_wells 1 c ≡ true → IsOver 1 (constant_head idle_wells 1 1 c) (rising c)
unfolding given_in constant_head scaled_ratio ratio
idle_constant zero lt is = record { is = refl }
idle_constant (suc zero) lt is = absurd (false≢true is)
idle_constant (suc (suc zero)) lt is = record { is = refl }
idle_constant (suc (suc (suc zero))) lt is = absurd (false≢true is)
idle_constant (suc (suc (suc (suc c)))) lt is = absurd (omega (arith, lt))

idle_balances : SolvesStep (exact_step idle_wells 1 1 (start_head idle_wells)) 1 (variable_heads (exact_step idle_wells 1 1 (start_head idle_wells)) rising)
unfolding variable_below given_in constant_head row_conductance in_a_row half entries_of scaled_ratio ratio plus product over
idle_balances zero lt = refl
idle_balances (suc c) lt = absurd (omega (arith, lt))

pub idle_solved : Solves idle_wells 1 (rising ∷ [])
unfolding times
idle_solved = record { some = omega arith; steps = (record { constant = idle_constant; balances = idle_balances }, tt) }

-- one cell: no constant head, and a balance that is computed at each step
one_constant : (n c : ℕ) (X : ℕ → ℤ) → c < 1 → is_constant one_cell 1 c ≡ true → IsOver 1 (constant_head one_cell 1 n c) (X c)
unfolding given_in
one_constant n zero X lt is = absurd (false≢true is)
one_constant n (suc c) X lt is = absurd (omega (arith, lt))

module _ where
  abbrev at_first : ℕ → ℤ
  at_first = head_at (pos 5 ∷ [])

  abbrev then : ℕ → ℤ
  then = head_at (pos 0 ∷ [])

  abbrev at_last : ℕ → ℤ
  at_last = head_at (negsuc 4 ∷ [])

  first_balance : SolvesStep (exact_step one_cell 1 1 (start_head one_cell)) 1 (variable_heads (exact_step one_cell 1 1 (start_head one_cell)) at_first)
  unfolding variable_below given_in entries_of scaled_ratio ratio plus product over storage power geometric
  first_balance zero lt = refl
  first_balance (suc c) lt = absurd (omega (arith, lt))

  second_balance : SolvesStep (exact_step one_cell 1 2 (heads_of 1 at_first)) 1 (variable_heads (exact_step one_cell 1 2 (heads_of 1 at_first)) then)
  unfolding variable_below given_in entries_of scaled_ratio ratio plus product over storage power geometric
  second_balance zero lt = refl
  second_balance (suc c) lt = absurd (omega (arith, lt))

  third_balance : SolvesStep (exact_step one_cell 1 3 (heads_of 1 then)) 1 (variable_heads (exact_step one_cell 1 3 (heads_of 1 then)) at_last)
  unfolding variable_below given_in entries_of scaled_ratio ratio plus product over storage power geometric
  third_balance zero lt = refl
  third_balance (suc c) lt = absurd (omega (arith, lt))

  pub one_solved : Solves one_cell 1 (at_first ∷ then ∷ at_last ∷ [])
  unfolding times
  one_solved = record {
    some = omega arith;
    steps = (
      record { constant = (λ c lt is. one_constant 1 c at_first lt is); balances = first_balance },
      (
        record { constant = (λ c lt is. one_constant 2 c then lt is); balances = second_balance },
        (record { constant = (λ c lt is. one_constant 3 c at_last lt is); balances = third_balance }, tt),
      ),
    );
  }
