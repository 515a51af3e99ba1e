use Rattle.decimal_input.proofs.Common.{◌≡◌, ◌<◌, ◌^◌, drop, number_from}
use Rattle.decimal_input.proofs.word.short_number.Given as goal

abbrev pub invariant-loop-b : goal.invariant-loop-b
invariant-loop-b l = record {
  short : l.so_far < 10 ^ l.b-index;
  value : number_from l.so_far (drop l.b-index l.digits) ≡ number_from 0 l.digits;
}
