use Rattle.decimal_input.proofs.Common.{◌+◌, ◌-◌, ◌*◌, get_or, drop, min, arith, sym, ◌∙◌, at_drop_more, number_from}
use Rattle.decimal_input.proofs.Caps.{same_cap}
use Rattle.decimal_input.proofs.word.capped_number.Goals as goal

pub loop-b-preserved : goal.loop-b-preserved
loop-b-preserved c = record {
  capped = omega arith;
  value =
      same_cap c.min-so_far.result (c.loop-b.so_far * 10 + (get_or c.args.digits.now c.loop-b.b-index 0 - 48)) (drop (c.loop-b.b-index + 1) c.args.digits.now) (omega arith)
      ∙ sym (at_drop_more (λ xs. min (number_from c.loop-b.so_far xs) 10000) c.args.digits.now c.loop-b.b-index 0 (omega arith))
      ∙ c.loop-b.invariant.value;
}
