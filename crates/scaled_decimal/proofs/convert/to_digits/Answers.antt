use Rattle.scaled_decimal.proofs.Common.{◌+◌, arith, add-one, ints, pow-suc, pow-add, Same-trans, ten_pos}
use Rattle.scaled_decimal.proofs.{Nearest.carry_keeps_ratio, Between.few_places}
use Rattle.scaled_decimal.proofs.convert.to_digits.Goals as goal

pub overflow_sub-e : goal.overflow_sub-e
overflow_sub-e c =
    let grown = c.loop-m.invariant.grown in
    omega (arith, ints, few_places grown.0 c.loop-m.m 14 grown.2 (omega arith), grown.1)

pub loop-m-smaller : goal.loop-m-smaller
loop-m-smaller c =
    let grown = c.loop-m.invariant.grown in
    omega (arith, grown.2, ten_pos grown.0)

pub loop-m-preserved : goal.loop-m-preserved
loop-m-preserved c =
    let grown = c.loop-m.invariant.grown in
    let few = few_places grown.0 c.loop-m.m 14 grown.2 (omega arith) in
    record {
      below = omega arith;
      grown = (grown.0 + 4, omega (arith, ints, few, grown.1), rw (pow-add 10 grown.0 4) (omega (arith, grown.2)));
      same = Same-trans (carry_keeps_ratio c.loop-m.m 4 _ _ (omega (arith, ints, few, grown.1))) c.loop-m.invariant.same;
    }

pub overflow_sub-e-in-loop-m-2 : goal.overflow_sub-e-in-loop-m-2
overflow_sub-e-in-loop-m-2 c =
    let grown = c.loop-m-2.invariant.grown in
    omega (arith, ints, few_places grown.0 c.loop-m-2.m 17 grown.2 (omega arith), grown.1)

pub loop-m-2-smaller : goal.loop-m-2-smaller
loop-m-2-smaller c =
    let grown = c.loop-m-2.invariant.grown in
    omega (arith, grown.2, ten_pos grown.0)

pub loop-m-2-preserved : goal.loop-m-2-preserved
loop-m-2-preserved c =
    let grown = c.loop-m-2.invariant.grown in
    let few = few_places grown.0 c.loop-m-2.m 17 grown.2 (omega arith) in
    record {
      below = omega arith;
      grown = (grown.0 + 1, omega (arith, ints, few, grown.1), rw (add-one, pow-suc 10 grown.0) (omega (arith, grown.2)));
      same = Same-trans (carry_keeps_ratio c.loop-m-2.m 1 _ _ (omega (arith, ints, few, grown.1))) c.loop-m-2.invariant.same;
    }

pub returns-clause-size : goal.returns-clause-size
returns-clause-size c =
    let grown = c.loop-m-2.invariant.grown in
    let few = few_places grown.0 c.loop-m-2.m 18 grown.2 (omega arith) in
    record { positive = omega arith; above = omega (arith, ints, few, grown.1); below = omega (arith, ints, grown.1) }
