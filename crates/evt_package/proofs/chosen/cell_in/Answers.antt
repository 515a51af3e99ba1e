use Rattle.evt_package.proofs.ModelLemmas.{in_grid}
use Rattle.evt_package.proofs.chosen.cell_in.Goals as goal

pub returns-clause-inside : goal.returns-clause-inside
returns-clause-inside c = rw c.layer_size.ensures.size (in_grid c.args.grid.now c.args.layer c.args.column c.requires.layer c.requires.column)
