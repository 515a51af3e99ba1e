-- Signs of the whole balances are signs of the exact ones.
use Rattle.gentle_check.proofs.Common.{◌≡◌, ℕ, ◌+◌, ◌-◌, ◌^◌, ◌<◌, zero, suc, [], ◌∷◌, List, length, get_or, refl, subst, sym, arith, All, ℤ, pos, neg_ℤ, ◌≤ℤ◌, ints, ◌*ℤ◌, EnclosesSigned, Fraction}
use Rattle.gentle_check.proofs.Common.{as_fraction, opposite, variable_cells, GainsAtLeast, LosesAtLeast, listed_heads, water_balance, SignsAreShown, AtMost, den}
use Rattle.std.proofs.Math.Nat.{one-le-pow}
use Rattle.decimal_input.proofs.FloorLaws.{mul_mono_right}
use Rattle.water_enclosure.specs.{flow_unit}
use Rattle.gentle_check.proofs.Balances.{balances_enclose}
unfoldable use Rattle.decimal_input.specs.{ratio}

unit_den : (k : ℕ) → den (as_fraction (ratio 1 (10 ^ k))) ≡ 10 ^ k
unfolding ratio
unit_den k = omega (arith, one-le-pow k 10 (omega arith))

-- a whole lower bound of at least 1, and an upper one of at most -1
gains : (k : ℕ) (lo hi : ℤ) (f : Fraction) → EnclosesSigned lo hi k f → pos 1 ≤ℤ lo → AtMost (as_fraction (ratio 1 (10 ^ k))) f
unfolding ratio
gains k lo hi f h some =
    let more = mul_mono_right (den f) (pos 1) lo some in
    let P : ℕ → Type 0 = λ n. (pos 1 *ℤ pos (den f)) ≤ℤ (f.num *ℤ pos n) in
    record { at_most = subst P (sym (unit_den k)) (omega (arith, ints, more, h.lower)) }

loses : (k : ℕ) (lo hi : ℤ) (f : Fraction) → EnclosesSigned lo hi k f → hi ≤ℤ neg_ℤ (pos 1) → AtMost f (opposite (as_fraction (ratio 1 (10 ^ k))))
unfolding ratio
loses k lo hi f h some =
    let less = mul_mono_right (den f) hi (neg_ℤ (pos 1)) some in
    let P : ℕ → Type 0 = λ n. (f.num *ℤ pos n) ≤ℤ (neg_ℤ (pos 1) *ℤ pos (den f)) in
    record { at_most = subst P (sym (unit_den k)) (omega (arith, ints, less, h.upper)) }

at_any : (xs : List ℕ) (i d e : ℕ) → i < length xs → get_or xs i d ≡ get_or xs i e
at_any [] i d e lt = absurd (omega (arith, lt))
at_any (x ∷ xs) zero d e lt = refl
at_any (x ∷ xs) (suc i) d e lt = at_any xs i d e (omega (arith, lt))

-- what holds at each index holds of all
by_index : (P : ℕ → Type 0) (xs : List ℕ) → ((i : ℕ) → i < length xs → P (get_or xs i 0)) → All P xs
by_index P xs h i d lt = subst P (at_any xs i 0 d lt) (h i lt)

pub signs_are_shown : SignsAreShown
signs_are_shown m w s at p q lows highs old pair L U before_low before_high valid yields time lower upper low_gentle high_gentle low high = record {
  low_gentle = low_gentle;
  high_gentle = high_gentle;
  low = by_index (λ c. GainsAtLeast (flow_unit s) (water_balance m w at before_low (listed_heads m at pair.low) c)) (variable_cells m at.period) (λ i lt.
      gains (s + 9) _ _ _ (balances_enclose m w s at p lows old pair.low L before_low i valid yields time lower lt) (low i lt));
  high = by_index (λ c. LosesAtLeast (flow_unit s) (water_balance m w at before_high (listed_heads m at pair.high) c)) (variable_cells m at.period) (λ i lt.
      loses (s + 9) _ _ _ (balances_enclose m w s at q highs old pair.high U before_high i valid yields time upper lt) (high i lt));
}
