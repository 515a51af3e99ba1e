use Rattle.gentle_heads.proofs.Common.{FitsSigned, rules, sym, subst, ◌∙◌, to_z-of_z, w128, IsDec, bottom_valid}
use Rattle.gentle_heads.proofs.walk.is_wet.Goals as goal

pub is_below-requires-clause-elevation : goal.is_below-requires-clause-elevation
is_below-requires-clause-elevation c = subst IsDec (sym c.bottom_at.ensures) (bottom_valid c.args.model.now c.args.c c.requires.model)

pub returns-then-is_convertible : goal.returns-then-is_convertible
returns-then-is_convertible c =
    let e = sym c.is_convertible.ensures ∙ c.if-is_convertible.true in
    let fits : FitsSigned w128 c.low_of.result = search rules in
    let plain = simp to_z-of_z at c.is_below.ensures in
    let h = rw (c.bottom_at.ensures, c.low_of.ensures.value) at plain in
    (λ t _. h.0 t, λ f. h.1 (f e))
