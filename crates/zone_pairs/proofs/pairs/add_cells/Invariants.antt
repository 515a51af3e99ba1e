use Rattle.zone_pairs.proofs.Common.{list_any, faces, variable_below, Gains, joins_by}
use Rattle.zone_pairs.proofs.pairs.add_cells.Given as goal

abbrev pub invariant-loop-cell : goal.invariant-loop-cell
invariant-loop-cell l = Gains l.fn.keys l.keys (λ z. list_any (λ c. list_any (joins_by l.fn.model l.fn.zones z c) (faces l.fn.model.grid c)) (variable_below l.fn.model l.fn.given.period l.cell))
