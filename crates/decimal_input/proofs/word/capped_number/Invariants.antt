use Rattle.decimal_input.proofs.Common.{◌≡◌, ◌≤◌, drop, min, number_from}
use Rattle.decimal_input.proofs.word.capped_number.Given as goal

abbrev pub invariant-loop-b : goal.invariant-loop-b
invariant-loop-b l = record {
  capped : l.so_far ≤ 10000;
  value : min (number_from l.so_far (drop l.b-index l.digits)) 10000 ≡ min (number_from 0 l.digits) 10000;
}
