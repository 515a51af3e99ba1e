use Rattle.model_types.proofs.Common.{◌≡◌, ◌++◌, take, flat_map, cell_count}
use Rattle.model_types.proofs.GivenTables.{table}
use Rattle.model_types.proofs.given_heads.GivenHeads.next.Given as goal

-- the entries of the lists before, then those of this list so far
abbrev pub invariant-loop-x : goal.invariant-loop-x
invariant-loop-x l = l.last ≡ table (cell_count l.model.grid) (flat_map (λ p. p.stresses.given) (take l.self.period l.model.periods) ++ take l.x-index l.list)
