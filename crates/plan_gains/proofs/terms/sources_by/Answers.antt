use Rattle.plan_gains.proofs.Totals.{sources_are}
use Rattle.plan_gains.proofs.terms.sources_by.Goals as goal

pub returns : goal.returns
returns c = sources_are c.args.sums.now _ _ _ _ _ _ _ c.total_of-all.ensures.value c.tighter_of-storage.ensures c.tighter_of-constant.ensures
    c.tighter_of-drains.ensures c.tighter_of-rivers.ensures c.tighter_of-general.ensures c.tighter_of-et.ensures
