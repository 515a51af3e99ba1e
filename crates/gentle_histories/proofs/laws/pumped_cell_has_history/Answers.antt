use Rattle.gentle_histories.proofs.Pumped.{pumped_cell_has_history}
use Rattle.gentle_histories.proofs.laws.pumped_cell_has_history.Goals as goal

pub returns : goal.returns
returns c = pumped_cell_has_history
