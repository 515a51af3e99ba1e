use Rattle.problem_builder.proofs.{CellFits.starts_enclose, CellFits.starts_fit, CellTables.kept_start}
use Rattle.problem_builder.proofs.start.start_heads.Goals as goal

pub returns-clause-bounds : goal.returns-clause-bounds
returns-clause-bounds c = kept_start c.args.model.now _ _ c.new-given.ensures.period c.in_ok-bounds.ensures

pub returns-clause-heads : goal.returns-clause-heads
returns-clause-heads c = starts_fit c.args.model.now _ c.requires (returns-clause-bounds c)

pub returns-clause-encloses : goal.returns-clause-encloses
returns-clause-encloses c = starts_enclose c.args.model.now _ (returns-clause-bounds c)
