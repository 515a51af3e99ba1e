use Rattle.conductance_bounds.proofs.Common.{ℤ, ◌-◌, ◌<◌, ◌^◌, ◌∙◌, ap, arith, false, subst, sym, to_z-of_z, true, value, w128, FitsSigned, signed_pair, Some, option_map, sign_fits}
use Rattle.conductance_bounds.proofs.{Capped.flow_gained, Capped.flow_lost, Capped.none_below, Capped.some_below, LayerBounds.Reaches-passes}
use Rattle.conductance_bounds.proofs.recharge.flow_of.Goals as goal

pub returns-in_default : goal.returns-in_default
returns-in_default c = record { bounds = (λ t p. ap (option_map (signed_pair c.args.neg)) (none_below t c.args.places (2 ^ 126 - 1) c.args.x p c.in_default.ensures.value)) }

pub returns-in_default-floor_units : goal.returns-in_default-floor_units
returns-in_default-floor_units c = record {
  bounds = (λ t p. ap (option_map (signed_pair c.args.neg))
      (none_below t c.args.places (2 ^ 126 - 1) c.args.x p (Reaches-passes (2 ^ 126) (2 ^ 126 - 1) (value c.args.x.lo) (value c.args.x.hi) c.args.places
      (omega arith) c.requires.ordered.order c.in_default-floor_units.ensures.value)));
}

pub returns-then-neg : goal.returns-then-neg
returns-then-neg c =
    let few : c.in-Some-floor_units.least < 2 ^ 126 = c.in-Some-floor_units.ensures.value.1 in
    let many : c.in-Some.most < 2 ^ 126 = c.in-Some.ensures.value.1 in
    let low : FitsSigned w128 c.with_sign.result = subst (λ (z : ℤ). FitsSigned w128 z) (sym c.with_sign.ensures) (sign_fits true c.in-Some.most many) in
    let high : FitsSigned w128 c.with_sign-then-neg.result = subst (λ (z : ℤ). FitsSigned w128 z) (sym c.with_sign-then-neg.ensures) (sign_fits true c.in-Some-floor_units.least few) in
    record {
      bounds = (λ t p. simp to_z-of_z (
          ap Some (flow_lost c.args.neg c.in-Some-floor_units.least c.in-Some.most _ _ c.if-neg.true c.with_sign.ensures c.with_sign-then-neg.ensures)
          ∙ ap (option_map (signed_pair c.args.neg))
          (some_below t c.args.places (2 ^ 126) c.in-Some-floor_units.least c.in-Some.most c.args.x p c.in-Some-floor_units.ensures.value.0
          c.in-Some.ensures.value.0 many)));
    }

pub returns-else-neg : goal.returns-else-neg
returns-else-neg c =
    let few : c.in-Some-floor_units.least < 2 ^ 126 = c.in-Some-floor_units.ensures.value.1 in
    let many : c.in-Some.most < 2 ^ 126 = c.in-Some.ensures.value.1 in
    let low : FitsSigned w128 c.with_sign-else-neg.result = subst (λ (z : ℤ). FitsSigned w128 z) (sym c.with_sign-else-neg.ensures) (sign_fits false c.in-Some-floor_units.least few) in
    let high : FitsSigned w128 c.with_sign-else-neg-2.result = subst (λ (z : ℤ). FitsSigned w128 z) (sym c.with_sign-else-neg-2.ensures) (sign_fits false c.in-Some.most many) in
    record {
      bounds = (λ t p. simp to_z-of_z (
          ap Some (flow_gained c.args.neg c.in-Some-floor_units.least c.in-Some.most _ _ c.if-neg.false c.with_sign-else-neg.ensures c.with_sign-else-neg-2.ensures)
          ∙ ap (option_map (signed_pair c.args.neg))
          (some_below t c.args.places (2 ^ 126) c.in-Some-floor_units.least c.in-Some.most c.args.x p c.in-Some-floor_units.ensures.value.0
          c.in-Some.ensures.value.0 many)));
    }
