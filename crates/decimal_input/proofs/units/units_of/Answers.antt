use Rattle.decimal_input.proofs.Common.{ℕ, ◌≡◌, ◌^◌, ◌∙◌, ◌-◌, ap, min, arith, ints, scaled_ratio, div-le_self}
use Rattle.decimal_input.proofs.{Powers.ten_pos, WholeUnits.nothing_is, WholeUnits.whole_are, WholeUnits.floor_quotient, WholeUnits.ceiling_quotient, WholeUnits.cut_units}
use Rattle.decimal_input.proofs.units.units_of.Goals as goal

pub returns-then-m-eq0 : goal.returns-then-m-eq0
returns-then-m-eq0 c = record { value = nothing_is c.args.up c.args.m c.args.s c.args.e (omega arith) }

pub returns-then-shift-ge0 : goal.returns-then-shift-ge0
returns-then-shift-ge0 c = record { value = whole_are c.args.up c.multiple.result c.args.m c.args.s c.unsigned_abs-places.result c.args.e (omega (arith, ints)) c.multiple.ensures.value }

pub nonzero_div-result : goal.nonzero_div-result
nonzero_div-result c = omega (arith, c.pow-unit.ensures, ten_pos c.min.result)

pub nonzero_div-result-else-up : goal.nonzero_div-result-else-up
nonzero_div-result-else-up c = omega (arith, c.pow-unit.ensures, ten_pos c.min.result)

pub returns-then-up : goal.returns-then-up
returns-then-up c =
    let k = c.unsigned_abs-places.result in
    let unit : c.pow-unit.result ≡ 10 ^ min k 18 = c.pow-unit.ensures ∙ ap (λ (n : ℕ). 10 ^ n) c.min.ensures in
    record {
      value = rw c.if-up.true (
        ceiling_quotient (scaled_ratio c.args.m c.args.e) c.args.m c.args.s k c.pow-unit.result c.requires.digits
            (omega arith) unit (cut_units c.args.m c.args.s k c.args.e (omega (arith, ints))),
        omega (arith, c.requires.digits, div-le_self (c.args.m - 1) c.pow-unit.result),
      );
    }

pub returns-else-up : goal.returns-else-up
returns-else-up c =
    let k = c.unsigned_abs-places.result in
    let unit : c.pow-unit.result ≡ 10 ^ min k 18 = c.pow-unit.ensures ∙ ap (λ (n : ℕ). 10 ^ n) c.min.ensures in
    record {
      value = rw c.if-up.false (
        floor_quotient (scaled_ratio c.args.m c.args.e) c.args.m c.args.s k c.pow-unit.result c.requires.digits unit
            (cut_units c.args.m c.args.s k c.args.e (omega (arith, ints))),
        omega (arith, c.requires.digits, div-le_self c.args.m c.pow-unit.result),
      );
    }
