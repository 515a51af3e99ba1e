use Rattle.water_conductances.proofs.Common.{◌≡◌, ap, arith, rules, ◌∙◌, ℕ, neg_ℤ, pos, unsigned_abs, are_thick, one_rounded, Lower, Upper, rounded_decimal}
use Rattle.conductance_bounds.proofs.SpanBounds.{abs_positive}
use Rattle.water_conductances.proofs.Units.{units_grow}
unfoldable use Rattle.decimal_input.specs.{scaled_ratio}
unfoldable use Rattle.water_conductances.specs.{span_of_units}
use Rattle.water_conductances.proofs.spans.span_of.Goals as goal

pub returns-clause-is : goal.returns-clause-is
unfolding span_of_units
returns-clause-is c =
    let low : c.unsigned_abs.result ≡ unsigned_abs c.args.least = search rules in
    let high : c.unsigned_abs-2.result ≡ unsigned_abs c.args.most = search rules in
    let lower = one_rounded Lower c.of_units_dn.result _ c.of_units_dn.ensures.nearest ∙ ap (λ (n : ℕ). rounded_decimal Lower (scaled_ratio n (neg_ℤ (pos 18)))) low in
    let upper = one_rounded Upper c.of_units_up.result _ c.of_units_up.ensures.nearest ∙ ap (λ (n : ℕ). rounded_decimal Upper (scaled_ratio n (neg_ℤ (pos 18)))) high in
    λ i. record { lo = lower i; hi = upper i }

pub returns-clause-thick : goal.returns-clause-thick
returns-clause-thick c =
    let low : c.unsigned_abs.result ≡ unsigned_abs c.args.least = search rules in
    let high : c.unsigned_abs-2.result ≡ unsigned_abs c.args.most = search rules in
    let some = abs_positive c.args.least c.requires.some in
    let grow = units_grow c.args.least c.args.most c.requires.some c.requires.order in
    are_thick (record { lo = c.of_units_dn.result; hi = c.of_units_up.result }) c.unsigned_abs.result c.unsigned_abs-2.result
    (omega (arith, low, high, grow)) c.of_units_dn.ensures.nearest c.of_units_up.ensures.nearest
    (c.of_units_dn.ensures.size (omega (arith, low, some))) (c.of_units_up.ensures.size (omega (arith, high, some, grow)))
