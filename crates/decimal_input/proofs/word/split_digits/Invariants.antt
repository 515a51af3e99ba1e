use Rattle.decimal_input.proofs.Common.{◌≡◌, ℕ, ◌<◌, get_or, true, is_digit}
use Rattle.decimal_input.proofs.word.split_digits.Given as goal

abbrev pub invariant-loop-i : goal.invariant-loop-i
invariant-loop-i l = (k : ℕ) → k < l.i → is_digit (get_or l.word k 0) ≡ true
