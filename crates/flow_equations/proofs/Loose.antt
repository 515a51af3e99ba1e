-- Two cells that nothing holds: no flow between equal heads.
use Rattle.flow_equations.proofs.Common.{◌≡◌, ℕ, zero, suc, ◌<◌, true, ℤ, pos, ◌+ℤ◌, ◌*ℤ◌, [], ◌∷◌, refl, ap, ◌∙◌, arith, false≢true, Ratio, neg_times, Fraction, den, as_fraction, IsOver, given_in}
use Rattle.flow_equations.proofs.Common.{variable_below, is_constant, constant_head, start_head, row_conductance, entries_of, minus, share, SolvesStep, exact_step, Solves, variable_heads, two_cells}
use Rattle.std.proofs.Math.IntN.{+ℤ_invr}
use Rattle.decimal_input.specs.Fractions.{plus, times}
use Rattle.model_types.specs.{times as all_times}

nothing_times : (n : ℕ) → pos 0 *ℤ pos n ≡ pos 0
nothing_times n = ap pos (omega arith)

times_nothing : (n : ℕ) → pos n *ℤ pos 0 ≡ pos 0
times_nothing n = ap pos (omega arith)

no_sum : (f g : Fraction) → f.num ≡ pos 0 → g.num ≡ pos 0 → (plus f g).num ≡ pos 0
no_sum f g p q = (λ i. p i *ℤ pos (den g) +ℤ q i *ℤ pos (den f)) ∙ (λ i. nothing_times (den g) i +ℤ nothing_times (den f) i)

no_difference : (f : Fraction) → (minus f f).num ≡ pos 0
no_difference f = ap (λ k. f.num *ℤ pos (den f) +ℤ k) (neg_times f.num (pos (den f))) ∙ +ℤ_invr (f.num *ℤ pos (den f))

no_flow : (c : Ratio) (f : Fraction) → (times (as_fraction c) (minus f f)).num ≡ pos 0
no_flow c f = ap (λ k. pos c.num *ℤ k) (no_difference f) ∙ times_nothing c.num

loose_constant : (d c : ℕ) (z : ℤ) → c < 2 → is_constant two_cells 1 c ≡ true → IsOver d (constant_head two_cells 1 1 c) z
unfolding given_in
loose_constant d zero z lt is = absurd (false≢true is)
loose_constant d (suc zero) z lt is = absurd (false≢true is)
loose_constant d (suc (suc c)) z lt is = absurd (omega (arith, lt))

loose_balances : (d : ℕ) (z : ℤ) → SolvesStep (exact_step two_cells 1 1 (start_head two_cells)) d (variable_heads (exact_step two_cells 1 1 (start_head two_cells)) (λ c. z))
unfolding variable_below given_in entries_of
loose_balances d z zero lt = no_sum _ _ refl (no_sum _ _ (no_sum _ _ (no_flow (row_conductance two_cells 0 1) (share d z)) refl) refl)
loose_balances d z (suc zero) lt = no_sum _ _ refl (no_sum _ _ (no_sum _ _ (no_flow (row_conductance two_cells 0 1) (share d z)) refl) refl)
loose_balances d z (suc (suc c)) lt = absurd (omega (arith, lt))

pub loose_solved : (d : ℕ) (z : ℤ) → 0 < d → Solves two_cells d ((λ c. z) ∷ [])
unfolding all_times
loose_solved d z some = record { some = some; steps = (record { constant = (λ c lt is. loose_constant d c z lt is); balances = loose_balances d z }, tt) }
