use Rattle.gentle_heads.proofs.Common.{FitsSigned, rules, sym, subst, ◌∙◌, to_z-of_z, w128, IsDec, bottom_valid}
use Rattle.gentle_heads.proofs.bottom.over_upper.Goals as goal

pub is_at_or_below-requires-clause-elevation : goal.is_at_or_below-requires-clause-elevation
is_at_or_below-requires-clause-elevation c = subst IsDec (sym c.bottom_at.ensures) (bottom_valid c.args.model.now c.args.upper c.requires.model)

pub returns-then-either_converts : goal.returns-then-either_converts
returns-then-either_converts c =
    let e = sym c.either_converts.ensures ∙ c.if-either_converts.true in
    let fits : FitsSigned w128 c.low_of.result = search rules in
    let plain = simp to_z-of_z at c.is_at_or_below.ensures in
    let h = rw (c.bottom_at.ensures, c.low_of.ensures.value) at plain in
    (λ t _. h.0 t, λ f. h.1 (f e))
