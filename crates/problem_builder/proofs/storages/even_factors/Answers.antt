use Rattle.problem_builder.proofs.Common.{refl, ap, sym, ◌∙◌, false≢true, size, Period, period_at, HasEvenSteps}
use Rattle.problem_builder.proofs.EvenSteps.{even_factors}
use Rattle.conductance_bounds.specs.{factors_of as step_factors}
use Rattle.problem_builder.proofs.storages.even_factors.Goals as goal

pub returns-then-period : goal.returns-then-period
returns-then-period c steps = absurd (false≢true (sym steps.transient ∙ sym (ap (λ (x : Period). x.steady) c.stress_period-period.ensures) ∙ c.if-period.true))

pub returns-then-is_one : goal.returns-then-is_one
returns-then-is_one c =
    let period = c.stress_period-period.ensures in
    let steps : HasEvenSteps (period_at c.args.model.now c.args.number) = record {
      transient = sym (ap (λ (x : Period). x.steady) period) ∙ c.if-period.false;
      even = sym (ap (λ (x : Period). x.tsmult) period) ∙ c.if-is_one.ensures.means.0 refl;
    } in
    even_factors c.args.model.now c.args.number c.step_factors.result steps
    (c.step_factors.ensures.grown ∙ (λ t. step_factors (size (period t).tsmult) (period t).nstp 1)) c.step_factors.ensures.usable

pub returns-else-is_one : goal.returns-else-is_one
returns-else-is_one c steps = absurd (false≢true (c.if-is_one.ensures.means.1 (ap (λ (x : Period). x.tsmult) c.stress_period-period.ensures ∙ steps.even)))
