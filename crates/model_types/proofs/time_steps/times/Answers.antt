use Rattle.model_types.proofs.Common.{length, refl, ap, ◌∙◌, arith, steps_of, range_with_len, flat_map}
use Rattle.model_types.specs.{times}
use Rattle.model_types.proofs.StepLists.{steps_more}
use Rattle.model_types.proofs.time_steps.times.Goals as goal

pub loop-p-preserved : goal.loop-p-preserved
loop-p-preserved c =
    c.in_ok-push_steps.ensures ∙ steps_more c.args.model.now c.loop-p.p _ _ c.as_slice-periods.result.now _ _ c.loop-p-test.true c.as_slice-periods.ensures
    c.index-periods-p.is refl refl c.loop-p.invariant

pub returns-clause-times : goal.returns-clause-times
unfolding times
returns-clause-times c =
    c.loop-p.invariant ∙ ap (λ k. flat_map (steps_of c.args.model.now) (range_with_len 1 k)) (omega (arith, c.loop-p-test.false, c.loop-p.auto.p-end, ap length c.as_slice-periods.ensures))
