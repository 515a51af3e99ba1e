use Rattle.decimal_input.proofs.Common.{◌≡◌, ◌+◌, ◌-◌, ◌*◌, get_or, arith, sym, subst, ◌∙◌, at_drop_more, at_drop_all, number_from, IsOf}
use Rattle.decimal_input.proofs.coefficient.with_digits.Goals as goal

pub loop-b-preserved : goal.loop-b-preserved
loop-b-preserved c = record {
  value = λ n h.
      let v = c.loop-b.invariant.value n h in (
        v.0 * 10 + (get_or c.args.digits.now c.loop-b.b-index 0 - 48),
        c.with_digit-so_far.ensures.value v.0 v.1,
        sym (at_drop_more (number_from v.0) c.args.digits.now c.loop-b.b-index 0 (omega arith)) ∙ v.2,
      );
  few = c.with_digit-so_far.ensures.digits;
  room = omega arith;
}

pub returns-clause-value : goal.returns-clause-value
returns-clause-value c = λ n h.
    let v = c.loop-b.invariant.value n h in
    let e : v.0 ≡ number_from n c.args.digits.now = sym (at_drop_all (number_from v.0) c.args.digits.now c.loop-b.b-index (omega arith)) ∙ v.2 in
    subst (IsOf c.loop-b.so_far) e v.1
