use Rattle.gentle_steps.proofs.Common.{◌∙◌, true, false, sym, subst, arith, false≢true, bound_at, no_bound, Bound, Side, Low, ReachesOn}
use Rattle.gentle_steps.proofs.{Options.option_weaker, Tables.constant_is, Tables.heads_count}
use Rattle.gentle_steps.proofs.constants.short_at.Goals as goal

pub bounds-as_slice-cell : goal.bounds-as_slice-cell
bounds-as_slice-cell c = omega (arith, c.requires.cell, heads_count c.args.model.now c.args.at c.args.step.now.heads c.as_slice.result.now c.requires.step.heads c.as_slice.ensures)

pub returns-then-is_constant : goal.returns-then-is_constant
returns-then-is_constant c =
    let m = c.args.model.now in
    let k = sym c.is_constant.ensures ∙ c.if-is_constant.true in
    let given = constant_is m c.args.at c.args.step.now.heads c.as_slice.result.now c.requires.step.heads c.as_slice.ensures c.args.cell no_bound c.requires.cell k in
    let P : Side → Bound → Type 0 = λ side b. ReachesOn side b (bound_at c.args.listed.now c.args.cell) in
    option_weaker c.short_side.result _ _ _ _ (λ h side e. subst (P side) given (h side))
    (λ side h. (λ r. h.0 (subst (P side) (sym given) (r k)), λ high e. subst (P Low) given (h.1 high))) c.short_side.ensures

pub returns-else-is_constant : goal.returns-else-is_constant
returns-else-is_constant c = λ side e. absurd (false≢true (sym (sym c.is_constant.ensures ∙ c.if-is_constant.false) ∙ e))
