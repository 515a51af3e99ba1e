use Rattle.std.proofs.Common.{◌∙◌}
use Rattle.model_types.proofs.StepLists.{step_pushed}
use Rattle.model_types.proofs.time_steps.push_steps.Goals as goal

pub loop-n-preserved : goal.loop-n-preserved
loop-n-preserved c = c.in_ok-push.ensures.items ∙ step_pushed c.args.period c.loop-n.n _ _ c.loop-n.invariant
