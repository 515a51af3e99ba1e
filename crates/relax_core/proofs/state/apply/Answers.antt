use Rattle.relax_core.proofs.Keeping.{step_keeps}
use Rattle.relax_core.proofs.state.apply.Goals as goal

pub returns-clause-kept : goal.returns-clause-kept
returns-clause-kept c b k = step_keeps c.args.p.now c.recall_conditions.ensures.fits b c.args.event c.args.state.now _ c.requires.named c.change.ensures k
