use Rattle.decimal_input.proofs.Common.{Some, None, ℤ, ap, sym, subst, ◌∙◌, arith, ints, FitsSigned, w128, to_z-of_z}
use Rattle.decimal_input.proofs.SignedFloors.{signed_are, units_small, sign_fits}
use Rattle.decimal_input.proofs.units.signed_units.Goals as goal

pub returns-in-Some : goal.returns-in-Some
returns-in-Some c =
    let fits : FitsSigned w128 c.with_sign.result =
    subst (λ (z : ℤ). FitsSigned w128 z) (sym c.with_sign.ensures)
    (sign_fits c.args.a.neg c.in-Some.units (units_small _ _ _ _ c.in-Some.ensures.value)) in
    simp to_z-of_z (ap Some c.with_sign.ensures ∙ signed_are c.args.up c.args.a c.args.s _ (Some c.in-Some.units) (omega (arith, ints)) c.in-Some.ensures.value)

pub returns-in-None : goal.returns-in-None
returns-in-None c = signed_are c.args.up c.args.a c.args.s _ None (omega (arith, ints)) c.in-None.ensures.value
