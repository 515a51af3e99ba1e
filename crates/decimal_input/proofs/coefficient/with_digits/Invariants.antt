use Rattle.decimal_input.proofs.Common.{◌≡◌, ℕ, ◌+◌, ◌^◌, ◌≤◌, ◌<◌, drop, IsOf, number_from}
use Rattle.decimal_input.proofs.coefficient.with_digits.Given as goal

abbrev pub invariant-loop-b : goal.invariant-loop-b
invariant-loop-b l = record {
  value : (c : ℕ) → IsOf l.fn.k c → (e : ℕ) × IsOf l.so_far e × (number_from e (drop l.b-index l.digits) ≡ number_from c l.digits);
  few : l.so_far.digits < 10 ^ 18;
  room : l.so_far.zeros ≤ l.fn.k.zeros + l.b-index;
}
