use Rattle.conductance_bounds.proofs.Common.{◌≡◌, ◌∙◌, false, is_whole, one, subst, sym, true, value, AtMost, IsPassed, Sd, part_passed, Part, is_ceiling}
use Rattle.conductance_bounds.proofs.PartBounds.{going_is, lower_at_most, multiplier_positive, over_is, part_encloses}
use Rattle.conductance_bounds.proofs.part.time_part.Goals as goal

pub returns-then-is_over-clause-rounded : goal.returns-then-is_over-clause-rounded
returns-then-is_over-clause-rounded c = over_is c.args.period.now c.args.step (sym c.is_over.ensures ∙ c.if-is_over.true)

pub returns-then-is_over-clause-encloses : goal.returns-then-is_over-clause-encloses
returns-then-is_over-clause-encloses c =
    subst (λ (x : Part). IsPassed (part_passed c.args.period.now c.args.step) x.lo x.hi) (sym (returns-then-is_over-clause-rounded c))
    (part_encloses c.args.period.now c.args.step c.requires.step.0 c.requires.step.1 (multiplier_positive c.args.period.now c.requires.times))

pub lower_part-requires-clause-part : goal.lower_part-requires-clause-part
lower_part-requires-clause-part c =
    subst (λ (x : Sd). AtMost (value x) one) (sym (c.over-passed.ensures.bounds _ _ c.sum_at.ensures.bounds c.sum_at-2.ensures.bounds).lower)
    (lower_at_most c.args.period.now c.args.step c.requires.step.0 c.requires.step.1 (multiplier_positive c.args.period.now c.requires.times))

pub returns-clause-rounded : goal.returns-clause-rounded
returns-clause-rounded c =
    let going : is_whole c.args.period.now c.args.step ≡ false = sym c.is_over.ensures ∙ c.if-is_over.false in
    going_is c.args.period.now c.args.step _ _ c.over-passed.result going (c.over-passed.ensures.bounds _ _ c.sum_at.ensures.bounds c.sum_at-2.ensures.bounds)
    c.lower_part.ensures.floor (c.upper_part.ensures.ceiling _ (is_ceiling (value c.over-passed.result.hi) 18))

pub returns-clause-encloses : goal.returns-clause-encloses
returns-clause-encloses c =
    subst (λ (x : Part). IsPassed (part_passed c.args.period.now c.args.step) x.lo x.hi) (sym (returns-clause-rounded c))
    (part_encloses c.args.period.now c.args.step c.requires.step.0 c.requires.step.1 (multiplier_positive c.args.period.now c.requires.times))
