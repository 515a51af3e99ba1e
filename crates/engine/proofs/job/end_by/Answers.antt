use Rattle.engine.proofs.job.end_by.Goals as goal
use Rattle.engine.specs.{defined}

pub returns : goal.returns
returns g c = record { pieces = c.in_ok-status.ensures.pieces; defined = c.in_ok-status.ensures.listed; text = c.in_ok-status.ensures.text }
