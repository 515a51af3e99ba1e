use Rattle.plan_chain.proofs.Settling.{times_planned}
use Rattle.plan_chain.proofs.step.next_plan_step.Goals as goal

pub deck_step-requires-in-Ok-clause-time : goal.deck_step-requires-in-Ok-clause-time
deck_step-requires-in-Ok-clause-time g c = times_planned c.args.task.now c.requires.task c.args.at c.requires.time
